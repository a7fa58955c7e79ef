use Rattle.meter_server.proofs.JournalLemmas.{by_terms}
use Rattle.meter_server.proofs.listening.AcceptedClientPortConnectionPortKept.serve.Goals as goal

pub returns : goal.returns
returns g c =
    let D = g.D.Durability in
    by_terms g.I.Read.remaining g.O.Write.contents D.is_durable D.has_ended D.was_running
    c.args.self.journal c.args.self.password _ _ record {
      reader = c.new-reader.result;
      writer = c.new-writer.result;
      unread = c.new-reader.ensures.unread;
      whole = (c.new-reader.ensures.whole, c.new-writer.ensures.whole);
      end = c.serve_client-port.result.1;
      read = c.serve_client-port.new.reader;
      written = c.serve_client-port.new.writer;
      serves = c.serve_client-port.ensures.served;
    }
