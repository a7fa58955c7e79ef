use Rattle.std.proofs.Common.{◌∙◌, ap, map, ◌<◌, arith}
use Rattle.std.specs.Char.{to_ascii_uppercase}
use Rattle.std.proofs.lemmas.List.Elements.{All-from_get_or}
use Rattle.server_commands.proofs.Digits.{capitals}
use Rattle.server_commands.proofs.answers.write_digits.Goals as goal

pub returns : goal.returns
returns c =
    c.make_ascii_uppercase.ensures.after ∙ ap (map to_ascii_uppercase) c.in-Ok.ensures.written
    ∙ capitals c.args.bytes.now (All-from_get_or (λ b. b < 256) c.args.bytes.now 0
    (λ i lt. omega (arith, c.type_inv.bytes i)))
