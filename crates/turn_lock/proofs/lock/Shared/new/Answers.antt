use Rattle.std.proofs.Common.{rules, ◌≡◌, [], sym, ap, ◌∙◌, subst}
use Rattle.turn_lock.specs.declared.known.Stage.TheVariants.{Idle}
use Rattle.turn_lock.specs.Rule.{first_view}
use Rattle.turn_lock.specs.Seats.{seat_with, at_stage, with_stage, state_of}
use Rattle.turn_lock.proofs.lock.Shared.new.Goals as goal

pub invariant_of-result : goal.invariant_of-result
invariant_of-result g c = let t = g.T.Turned in let origin = t.origin c.args.value in
    let seat : state_of c.settle.new.place ≡ seat_with (with_stage (first_view origin) Idle) [] =
    c.settle.ensures.seat.1 ∙ ap (λ s. at_stage s Idle) c.in-Ok.ensures.ok.2 in
    record {
      table_is = search rules;
      sized = search rules;
      ready = record {
        port = ap (λ s. s.view.is_port) seat;
        stage_is = ap (λ s. s.view.stage) seat;
        carried_is = ap (λ s. s.carried) seat;
      };
      lawful = record {
        origin = origin;
        origin_is = ap (λ s. s.view.known.origin) seat;
        legal_history = subst (λ s. t.legal origin s.view.known.seen) (sym seat)
            (g.met.T.Turned.is_legal c.args.value [] c.requires.empty);
      };
      within_most = c.requires.bound.1;
    }
