-- The results of the steps of `next`.
use Rattle.std.proofs.Common.{[], Option, Some, None, Result, Ok, Err, IsErrAnd}
use Rattle.relay_recorder.specs.Recording.{Recording}
use Rattle.embedded_meter.specs.Dialogues.{Dialogue}
use Rattle.embedded_meter.specs.Progress.{Advances}
use Rattle.embedded_meter.specs.Working.{AsksBy, WorksBy, SettlesBy}
use Rattle.embedded_meter.specs.declared.connection.NextNeed.{NextNeed}
use Rattle.embedded_meter.proofs.Advancing.{advances_same}

module _ {E : Type 0} where
  -- the session was asked for its next event, frame or end
  pub asks_works : (old new : Dialogue) (r : Recording) (result : Result (Option NextNeed) E)
      → AsksBy old result new → WorksBy old r result new r
  asks_works old new r (Ok None) asks = (advances_same old new r asks.0, asks.1)
  asks_works old new r (Ok (Some rest)) asks = (advances_same old new r asks.0, asks.1)
  asks_works old new r (Err error) asks = advances_same old new r asks

  -- a step stopped
  pub works_short : (old new : Dialogue) (r r' : Recording) (result : Result (Option NextNeed) E)
      (P : E → Type 0) → IsErrAnd result P → Advances old r [] new r' → WorksBy old r result new r'
  works_short old new r r' (Ok _) P is far = absurd is
  works_short old new r r' (Err error) P is far = far

  pub rests_short : (old new : Dialogue) (r r' : Recording) (result : Result NextNeed E) (P : E
      → Type 0) → IsErrAnd result P → Advances old r [] new r' → SettlesBy old r result new r'
  rests_short old new r r' (Ok _) P is far = absurd is
  rests_short old new r r' (Err error) P is far = far
