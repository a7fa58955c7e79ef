-- What a query of a ledger does to a connection: nothing.
use Rattle.std.proofs.Common.{◌≡◌, ◌≢◌, ◌∙◌, ℕ, List, [], Result, Ok, Err, IfOk, OnOk, refl}
use Rattle.std.proofs.Common.{ap, subst, sym}
use Rattle.sqlite.specs.Schema.{Schema}
use Rattle.sqlite.specs.Order.{Row}
use Rattle.sqlite.specs.Listing.{understood}
use Rattle.sqlite.specs.State.{State, IsUnchanged, Shown, ShowsRows}
use Rattle.sqlite.proofs.Callers.{IsPlain}
use Rattle.sqlite_tied.specs.Compute.{everything}
use Rattle.sqlite_ledger.specs.Campaigns.{select_campaign}
use Rattle.sqlite_ledger.specs.Jobs.{select_jobs}
use Rattle.sqlite_ledger.specs.Lines.{select_begun_times, select_outcome_times}
use Rattle.sqlite_ledger.specs.Readings.{select_begun, select_outcomes}
use Rattle.sqlite_ledger.specs.Schema.{ledger_schema}

pub shown_unchanged : (sql : List ℕ) (old new : State) (rows : List Row) → IsPlain (understood
    old.now.schema sql) → Shown sql [] old new rows → IsUnchanged old new
unfolding Shown
shown_unchanged sql old new rows plain h =
    let none = (subst IsPlain h.1.is plain).0 in
    (subst (ShowsRows old new sql h.0 _ rows) none h.2).3

pub ok_then : {X E : Type 0} (r : Result X E) (P : X → Type 0) (Q : Type 0) → IfOk r P → ((x : X) →
    P x → Q) → OnOk r Q
ok_then (Ok x) P Q h f = f x h
ok_then (Err e) P Q h f = tt

pub ok_map : {X E : Type 0} (r : Result X E) (P Q : X → Type 0) → IfOk r P → ((x : X) → P x → Q x)
    → IfOk r Q
ok_map (Ok x) P Q h f = f x h
ok_map (Err e) P Q h f = tt

-- a ledger has tables
pub has_tables : (schema : Schema) → schema ≡ ledger_schema → schema.tables ≢ []
has_tables schema has empty =
    let none : ledger_schema.tables ≡ [] = ap (λ (s : Schema). s.tables) (sym has) ∙ empty in cc

pub jobs_plain : IsPlain (understood ledger_schema select_jobs)
unfolding understood everything
jobs_plain = (refl, refl)

pub campaign_plain : IsPlain (understood ledger_schema select_campaign)
unfolding understood everything
campaign_plain = (refl, refl)

pub begun_plain : IsPlain (understood ledger_schema select_begun)
unfolding understood everything
begun_plain = (refl, refl)

pub outcomes_plain : IsPlain (understood ledger_schema select_outcomes)
unfolding understood everything
outcomes_plain = (refl, refl)

pub begun_times_plain : IsPlain (understood ledger_schema select_begun_times)
unfolding understood everything
begun_times_plain = (refl, refl)

pub outcome_times_plain : IsPlain (understood ledger_schema select_outcome_times)
unfolding understood everything
outcome_times_plain = (refl, refl)
