-- The header of a block scalar, as the value from which yf_block_scalar defines its text. That text is the header text
-- of `BlockLines`, and the lines agree too (`proofs/Derived/BlockTexts.antt`, `ScalarBytes.antt`), so the layout reads
-- back.
use Rattle.std.specs.Prelude.{ℕ, zero, suc, Bool, true, false, List, Option, Some, None, if◌then◌else◌}
use Rattle.yf_block_scalar.specs.declared.header.Chomp.{Chomp}
use Rattle.yf_block_scalar.specs.declared.header.Chomp.TheVariants.{Strip, Clip, Keep}
use Rattle.yf_block_scalar.specs.declared.header.Header.{Header}
use Rattle.yf_events.specs.declared.event.ScalarStyle.{ScalarStyle}
use Rattle.yf_events.specs.declared.event.ScalarStyle.TheVariants.{Folded}
use Rattle.yf_forms.specs.Nodes.BlockLines.{begins_with_space, final_feeds}

abbrev pub is_folded : ScalarStyle → Bool
is_folded Folded = true
is_folded style = false

-- from the number of line feeds at the end of the text
abbrev pub chomp_of : ℕ → Chomp
chomp_of zero = Strip
chomp_of (suc zero) = Clip
chomp_of (suc (suc n)) = Keep

-- the digit of the indentation
abbrev pub digit_of : ℕ → List ℕ → Option ℕ
digit_of indent text = if begins_with_space text then Some indent else None

abbrev pub header_of : ScalarStyle → ℕ → List ℕ → Header
header_of style indent text = record { folded = is_folded style; digit = digit_of indent text; chomp = chomp_of (final_feeds text) }
