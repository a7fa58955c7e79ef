use Rattle.std.proofs.Common.{◌≡◌, ◌∙◌, rules}
use Rattle.std.specs.Int.{bytes_high_first}
use Rattle.cosem_axdr.proofs.BigEndian.{lowest_four}
use Rattle.cosem_axdr.proofs.length.append_length.Goals as goal

pub returns-in_default-clause-ok : goal.returns-in_default-clause-ok
returns-in_default-clause-ok c =
    let bytes : c.write_u32.new.buf ≡ bytes_high_first 4 c.args.length =
    c.write_u32.ensures ∙ lowest_four c.args.length in
    let done = rw bytes at c.extend_from_slice-in_default.ensures.ok in
    search (rules, done)
