use Rattle.std.proofs.Common.{refl, subst, ◌∙◌, to_z-of_z}
use Rattle.std.specs.Str.{IsUtf8}
use Rattle.yf_block_scalar.specs.Written.{written_of}
use Rattle.yf_block_scalar.proofs.DerivedLemmas.{read_again}
use Rattle.yf_block_scalar.proofs.write.write_block.Goals as goal

pub returns-in-Ok-push_str-clause-read : goal.returns-in-Ok-push_str-clause-read
returns-in-Ok-push_str-clause-read c =
    let written = rw (to_z-of_z c.ranges.n) at c.in-Ok.ensures in
    let utf8 : IsUtf8 (written_of c.args.block.now c.args.column c.args.n) = subst IsUtf8 (c.as_str.ensures.value ∙ written) c.as_str.utf8 in
    λ s. read_again c.args.block.now c.args.column c.args.n utf8 refl c.requires.right c.requires.near s
