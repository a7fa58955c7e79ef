use Rattle.std.specs.Prelude.{refl}
use Rattle.trace_player.proofs.RunTraceLemmas.{IsExport, tells_run}
use Rattle.trace_player.proofs.exporting.recorder_trace.Goals as goal

pub returns : goal.returns
returns c =
    let exported = c.in_ok-trace.ensures in
    let is : IsExport c.args.recorder.now c.in_ok-trace.trace = record {
      opening = exported.opening;
      events = exported.events;
      fit = exported.fit;
      few = exported.within_max;
      replays = exported.replays;
    } in
    tells_run c.args.recorder.now c.args.recorder.now c.in_ok-trace.trace
    c.write_trace-text.result refl is
    c.exported_run_is_played.ensures c.write_trace-text.ensures.text
    c.write_trace-text.ensures.read_back c.write_trace-text.ensures.within_max
