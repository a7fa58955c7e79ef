use Rattle.std.proofs.Common.{None, sym, refl, ◌∙◌, subst}
use Rattle.std.proofs.lemmas.Option.{none-some}
use Rattle.session_core.proofs.Shorts.{answers_in, asks_at_front, hears_short}
use Rattle.session_core.specs.ShortRequests.{IsShortText}
use Rattle.session_core.proofs.session.Session.next_short.Goals as goal

pub returns-clause-asks : goal.returns-clause-asks
returns-clause-asks c = rw (c.put.ensures, c.put-2.ensures, c.put-3.ensures)
    (asks_at_front c.args.self.now _ c.pass.new.self c.payload-payload.result.now
    (record { link = c.args.self.now.state.link; incoming = None; outgoing = None })
    c.ports-source.result.0 c.ports-source.result.1 c.in-Whole.size
    (record { link = c.in_ok-link.link; form = c.in_ok-form.form }) c.in_ok-form.request
    c.in-Listen.is (sym c.front.ensures.head ∙ c.in-Whole.is) c.ports-source.ensures.src
    c.ports-source.ensures.dst c.if-destination-ne-SERVER_PORT.false
    c.payload-payload.ensures c.pass.ensures.new_state c.pass.ensures.keeps_frames
    (hears_short c.args.self.now.state c.ports-source.result.0 c.payload-payload.result.now
    c.in_ok-link.link c.in_ok-form.form c.in_ok-form.request c.in_ok-link.was
    (sym c.if-source-link.false) c.in_ok-form.ensures.read) refl)

pub returns-clause-is_short : goal.returns-clause-is_short
returns-clause-is_short c = (
  (λ some. record {
    listens = c.in-Listen.is;
    link = c.in_ok-link.link;
    associated = c.in_ok-link.was;
    size = c.in-Whole.size;
    whole = sym c.front.ensures.head ∙ c.in-Whole.is;
    to_server = sym c.ports-source.ensures.dst ∙ c.if-destination-ne-SERVER_PORT.false;
    from_client = sym c.ports-source.ensures.src ∙ c.if-source-link.false;
    short = subst (IsShortText c.in_ok-link.link.conformance.0) c.payload-payload.ensures
        (c.in_ok-form.ensures.is_short.0 (λ e. none-some _ (sym e)));
  }),
  (λ short none. absurd cc),
)

pub returns-clause-answers : goal.returns-clause-answers
returns-clause-answers c = λ reply is buffer room. rw c.put-3.ensures
    (answers_in c.in_ok-link.link.conformance.0 c.payload-payload.result.now
    (record { link = c.in_ok-link.link; form = c.in_ok-form.form }) c.in_ok-link.link.level
    c.in_ok-form.request reply buffer c.in_ok-form.ensures.read c.holds_range.ensures.least is room)
