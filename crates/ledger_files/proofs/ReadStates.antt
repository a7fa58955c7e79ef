-- What is read over a connection that is then dropped.
use Rattle.std.proofs.Common.{Result, Ok, Err, IfOk}

-- two facts of a value that a call may have returned give a third
pub ok_both : {X E : Type 0} (r : Result X E) (A : Type 0) (P Q R : X → Type 0) → IfOk r P
    → (A → IfOk r Q) → ((x : X) → P x → (A → Q x) → R x) → IfOk r R
ok_both (Ok x) A P Q R p q f = f x p q
ok_both (Err e) A P Q R p q f = tt
