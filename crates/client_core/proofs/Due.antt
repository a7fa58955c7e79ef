-- The request is the next message exactly if it is the second and the association is open.
use Rattle.std.proofs.Common.{◌≡◌, ℕ, zero, suc, Bool, true, false, List, Some, None, Option, refl, ap}
use Rattle.std.specs.Prelude.{◌&&◌, is_some, is_none}
use Rattle.client_core.specs.declared.client.Client.{Client}
use Rattle.client_core.specs.declared.job.Verb.{Verb}
use Rattle.client_core.specs.declared.progress.Progress.{Progress}
use Rattle.client_core.specs.Outcomes.{progress_of}
use Rattle.client_core.specs.Standing.{AreLeft, Stands, TellsRequest, is_second}

due_at : (verb : Verb) (password : List ℕ) (given : ℕ) (aarq request release : Option (List ℕ))
    (accepted : Bool) → AreLeft verb password given aarq request release
    → (is_none aarq && is_some request && accepted) ≡ (is_second given && accepted)
due_at verb password zero aarq request release accepted left = rw left.0 refl
due_at verb password (suc zero) aarq request release accepted left = rw (left.0, left.1) refl
due_at verb password (suc (suc zero)) aarq request release accepted left = rw (left.0, left.1) refl
due_at verb password (suc (suc (suc given))) aarq request release accepted left =
    rw (left.0, left.1) refl

pub tells_request : (c : Client) (result : Bool)
    → result ≡ (is_none c.aarq && is_some c.request && c.progress.accepted)
    → TellsRequest c result
tells_request c result is = record {
  told = λ verb password fed given over s. rw is (
      let now : c.progress.accepted ≡ (progress_of verb fed).accepted =
      ap (λ (p : Progress). p.accepted) s.now in
      rw (← now) (due_at verb password given c.aarq c.request c.release c.progress.accepted
      s.left));
}
