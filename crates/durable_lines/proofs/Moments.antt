-- What a crash at any moment of a run of calls leaves, call by call.
use Rattle.std.proofs.Common.{inl, inr, ⊎_elim, ℕ, List, arith}
use Rattle.durable_lines.specs.CrashModel.{Elapses, LeavesOnly, PassesTime}
use Rattle.durable_lines.specs.FileModel.{FileModel}

module _ {F : Type 0} (model : FileModel F) where
  -- before the first call
  pub begin : (old : F) (P : List ℕ → Type 0) → ((c : List ℕ) → model.may_leave old c → P c)
      → LeavesOnly model old old P
  begin old P here = record {
    later = omega arith;
    each = λ c left. here c (model.only_now old c left);
    before = λ t c le left. inl left;
  }

  -- after one more call, if P holds for what a crash leaves then
  pub then_call : (old mid new : F) (P : List ℕ → Type 0) → LeavesOnly model old mid P
      → PassesTime model mid new → ((c : List ℕ) → model.may_leave new c → P c)
      → LeavesOnly model old new P
  then_call old mid new P so_far time here = record {
    later = omega (arith, so_far.later, time.later);
    each = λ c left. ⊎_elim (so_far.each c) (here c)
        (time.nothing_else (model.moment old) c so_far.later left);
    before = λ t c le left. ⊎_elim (so_far.before t c le) (λ now. inr (here c now))
        (time.nothing_else t c (omega (arith, le, so_far.later)) left);
  }

  -- after one call, if P holds for what a crash leaves before it and after it
  pub one_call : (old new : F) (P : List ℕ → Type 0)
      → ((c : List ℕ) → model.may_leave old c → P c) → PassesTime model old new
      → ((c : List ℕ) → model.may_leave new c → P c) → LeavesOnly model old new P
  one_call old new P before time here = then_call old old new P (begin old P before) time here

  -- what a crash leaves has a weaker property too
  pub leaves_as : (old new : F) (P Q : List ℕ → Type 0) → ((c : List ℕ) → P c → Q c)
      → LeavesOnly model old new P → LeavesOnly model old new Q
  leaves_as old new P Q weaker leaves = record {
    later = leaves.later;
    each = λ c left. weaker c (leaves.each c left);
    before = λ t c le left.
        ⊎_elim (λ was. inl was) (λ now. inr (weaker c now)) (leaves.before t c le left);
  }

  -- one run of calls after another
  pub leaves_then : (old mid new : F) (P : List ℕ → Type 0) → LeavesOnly model old mid P
      → LeavesOnly model mid new P → LeavesOnly model old new P
  leaves_then old mid new P one two = record {
    later = omega (arith, one.later, two.later);
    each = λ c left. ⊎_elim (one.each c) (λ now. now)
        (two.before (model.moment old) c one.later left);
    before = λ t c le left.
        ⊎_elim
        (λ mid_left. ⊎_elim (λ was. inl was) (λ now. inr now) (one.before t c le mid_left))
        (λ now. inr now) (two.before t c (omega (arith, le, one.later)) left);
  }

-- no call
pub elapses_still : (moment : ℕ) (since : ℕ → List ℕ → Type 0) (may_leave : List ℕ → Type 0)
    → Elapses moment moment since since may_leave
elapses_still moment since may_leave = record {
  later = omega arith;
  nothing_else = λ t c le was. inl was;
  keeps = λ t c le was. was;
}
