use Rattle.std.proofs.Common.{◌≡◌, ℕ, List, refl, sym, ◌∙◌, ap, arith, rules, length, take, subst}
use Rattle.durable_lines.specs.FileState.{seen_of}
use Rattle.durable_lines.specs.RawFile.{ReadsPiece}
use Rattle.durable_lines.specs.RawModel.{raw_bytes}
use Rattle.durable_lines.proofs.RawLemmas.{ReadsTo, calls_none, reads_all, reads_more, reads_none}
use Rattle.durable_lines.proofs.RawLemmas.{then_same}
use Rattle.durable_lines.proofs.raw_calls.read_within.Goals as goal

pub returns-in_err-count-clause-call : goal.returns-in_err-count-clause-call
returns-in_err-count-clause-call g c = then_same g.R.RawFile.model _ _ _ _ _ _
    c.pieces.invariant.calls c.read_retrying.ensures.call c.read_retrying.ensures.state
    (λ failed. search rules)

pub returns-then-count-eq0-clause-call : goal.returns-then-count-eq0-clause-call
returns-then-count-eq0-clause-call g c = then_same g.R.RawFile.model _ _ _ _ _ _
    c.pieces.invariant.calls c.read_retrying.ensures.call c.read_retrying.ensures.state
    (λ failed. search rules)

pub returns-in_err-extend_from_slice-clause-call : goal.returns-in_err-extend_from_slice-clause-call
returns-in_err-extend_from_slice-clause-call g c = then_same g.R.RawFile.model _ _ _ _ _ _
    c.pieces.invariant.calls c.read_retrying.ensures.call c.read_retrying.ensures.state
    (λ failed. search rules)

pub returns-then-len-limit-clause-call : goal.returns-then-len-limit-clause-call
returns-then-len-limit-clause-call g c = then_same g.R.RawFile.model _ _ _ _ _ _
    c.pieces.invariant.calls c.read_retrying.ensures.call c.read_retrying.ensures.state
    (λ failed. search rules)

pub returns-then-count-eq0-clause-bytes : goal.returns-then-count-eq0-clause-bytes
returns-then-count-eq0-clause-bytes g c acts =
    let model = g.R.RawFile.model in
    let is : raw_bytes model c.pieces.raw ≡ raw_bytes model c.args.raw.now =
    ap seen_of c.pieces.invariant.state in
    reads_all (raw_bytes model c.args.raw.now) _ _ _ c.pieces.bytes.items _
    (c.pieces.invariant.so acts)
    (subst (λ (bytes : List ℕ). ReadsPiece bytes (model.place c.pieces.raw)
    (model.place c.read_retrying.new.raw) (length c.read_retrying.new.buffer)
    (take c.in_ok-count.count c.read_retrying.new.buffer)) is (c.in_ok-count.ensures.read acts))
    (ap (λ (n : ℕ). take n c.read_retrying.new.buffer) c.if-count-eq0.true)
    (let room : length c.read_retrying.new.buffer ≡ 16384 = search rules in omega (arith, room))

pub pieces-preserved : goal.pieces-preserved
pieces-preserved g c =
    let model = g.R.RawFile.model in
    let is : raw_bytes model c.pieces.raw ≡ raw_bytes model c.args.raw.now =
    ap seen_of c.pieces.invariant.state in
    record {
      so = λ acts. reads_more (raw_bytes model c.args.raw.now) _ _ _ c.pieces.bytes.items _
          c.extend_from_slice.new.self.items (c.pieces.invariant.so acts)
          (subst (λ (bytes : List ℕ). ReadsPiece bytes (model.place c.pieces.raw)
          (model.place c.read_retrying.new.raw) (length c.read_retrying.new.buffer)
          (take c.in_ok-count.count c.read_retrying.new.buffer)) is
          (c.in_ok-count.ensures.read acts)) c.in_ok-extend_from_slice.ensures.items;
      within = omega (arith, c.if-len-limit.false, c.len.ensures);
      state = c.read_retrying.ensures.state ∙ c.pieces.invariant.state;
      calls = then_same model _ _ _ _ _ _ c.pieces.invariant.calls c.read_retrying.ensures.call
          c.read_retrying.ensures.state (λ none. absurd none);
      room = search rules;
    }

pub pieces-init : goal.pieces-init
pieces-init g c =
    let model = g.R.RawFile.model in
    let place : model.acts → model.place c.seek_start.new.self ≡ 0 = search rules in
    record {
      so = λ acts. subst (λ (got : List ℕ).
          ReadsTo (raw_bytes model c.args.raw.now) (model.place c.seek_start.new.self) got)
          (sym c.new-bytes.ensures.items) (reads_none _ _ (place acts));
      within = omega (arith, ap (λ (bytes : List ℕ). length bytes) c.new-bytes.ensures.items);
      state = c.seek_start.ensures.state;
      calls = calls_none model _ _ _ c.seek_start.ensures.call;
      room = refl;
    }
