use Rattle.std.proofs.Common.{ℕ, ◌≡◌, true, false, refl}
use Rattle.std.specs.contracts.alloc.AllocError.{the_row}
use Rattle.session_core.proofs.Tasks.{listens_on, listens_to_close, listens_to_cut, listens_to_bad_version, listens_to_too_long}
use Rattle.session_core.proofs.session.Session.listen.Goals as goal

pub returns-in-Part-clause-works : goal.returns-in-Part-clause-works
returns-in-Part-clause-works c = listens_on ℕ c.args.self.now c.front.result
    c.requires c.if-not-self.true c.in-Part.is c.front.ensures.means

pub returns-in-Part-2-clause-works : goal.returns-in-Part-2-clause-works
returns-in-Part-2-clause-works c =
    listens_to_close the_row.Denot c.args.self.now c.end.new.self c.front.result c.end.result
    c.requires c.if-not-self.false c.in-Part.is c.front.ensures.means
    (c.if-is_empty.ensures.0 refl) c.end.ensures.next c.end.ensures.new_state

pub returns-in-Part-3-clause-works : goal.returns-in-Part-3-clause-works
returns-in-Part-3-clause-works c =
    listens_to_cut the_row.Denot c.args.self.now c.end-in-Part-3.new.self c.front.result
    c.end-in-Part-3.result c.requires c.if-not-self.false c.in-Part.is c.front.ensures.means
    (λ e. let wrong : false ≡ true = c.if-is_empty.ensures.1 e in absurd cc)
    c.end-in-Part-3.ensures.next c.end-in-Part-3.ensures.new_state

pub returns-in-BadVersion-clause-works : goal.returns-in-BadVersion-clause-works
returns-in-BadVersion-clause-works c =
    listens_to_bad_version the_row.Denot c.args.self.now c.end-in-BadVersion.new.self c.front.result
    c.end-in-BadVersion.result c.requires c.in-BadVersion.is c.front.ensures.means
    c.end-in-BadVersion.ensures.next c.end-in-BadVersion.ensures.new_state

pub returns-in-TooLong-clause-works : goal.returns-in-TooLong-clause-works
returns-in-TooLong-clause-works c =
    listens_to_too_long the_row.Denot c.args.self.now c.end-in-TooLong.new.self c.front.result
    c.end-in-TooLong.result c.requires c.in-TooLong.is c.front.ensures.means
    c.end-in-TooLong.ensures.next c.end-in-TooLong.ensures.new_state
