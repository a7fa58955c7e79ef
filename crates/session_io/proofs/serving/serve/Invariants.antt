-- After each read, everything that the bytes read so far ask for has been done.
use Rattle.std.proofs.Common.{◌≡◌, ◌+◌, ℕ, List, length}
use Rattle.session_core.specs.Progress.{Owes}
use Rattle.session_io.proofs.Ordering.{Waits}
use Rattle.session_io.specs.Serving.{as_bytes}
use Rattle.session_io.specs.Settling.{IsCaughtUp}
use Rattle.session_io.specs.Sides.{input_of, outlets_of}
use Rattle.session_io.proofs.serving.serve.Given as goal

abbrev pub invariant-reads : goal.invariant-reads
invariant-reads g l = record {
  stands : IsCaughtUp g.M.Meter.steps as_bytes l.initial.session
      (record {
        input = input_of g.R.Reader.remaining g.R.Reader.reads g.R.Reader.failures l.initial.reader;
        outlets = outlets_of g.W.Writer.contents g.W.Writer.failures l.initial.writer
            l.initial.meter;
      })
      l.counter l.session
      (record {
        input = input_of g.R.Reader.remaining g.R.Reader.reads g.R.Reader.failures l.reader;
        outlets = outlets_of g.W.Writer.contents g.W.Writer.failures l.writer l.meter;
      });
  counted : g.R.Reader.reads l.reader ≡ g.R.Reader.reads l.initial.reader + l.counter;
  readable : g.R.Reader.can_read l.reader;
  writable : g.W.Writer.can_write l.writer;
  read_even : g.R.Reader.failures l.reader ≡ g.R.Reader.failures l.initial.reader;
  write_even : g.W.Writer.failures l.writer ≡ g.W.Writer.failures l.initial.writer;
  order : (password : List ℕ) → Owes password l.initial.session
      → Waits password l.session (g.V.SessionWatch.passed l.initial.watch)
      (g.V.SessionWatch.passed l.watch)
      (g.R.Reader.remaining l.initial.reader) (g.R.Reader.remaining l.reader);
  room : length l.buffer ≡ length l.initial.buffer;
}
