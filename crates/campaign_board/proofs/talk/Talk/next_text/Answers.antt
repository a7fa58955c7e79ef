use Rattle.std.proofs.Common.{refl}
use Rattle.campaign_board.proofs.TalkLemmas.{gives_next}
use Rattle.campaign_board.proofs.talk.Talk.next_text.Goals as goal
use Rattle.campaign_board.proofs.talk.Talk.next_text.Goals.{else-is_request-via-then-is_request+else-not-self, else-is_request-via-else-is_request, then-self, else-self}

pub returns : goal.returns
returns c = gives_next c.args.self.now _ c.is_request_due-is_request.result c.to_send-text.result
    c.to_send-text.ensures c.is_request_due-is_request.ensures
    (elim c.else-is_request.branch [
      | else-is_request-via-then-is_request+else-not-self w ↦
          rw (w.if-is_request.true, w.if-not-self.false) refl
      | else-is_request-via-else-is_request w ↦ rw w.if-is_request.false refl
    ]) refl
    (elim c.if-self.branch [
      | then-self w ↦ rw (w.self-is, w.if-self.true) refl
      | else-self w ↦ rw (w.self-is, w.if-self.false) refl
    ])
