-- The laws of `ContentLaws` on the meanings of scalars.
use Rattle.std.proofs.Common.{◌≡◌, ℕ, pos, false, true≢false, List, refl, sym, arith}
use Rattle.std.specs.Str.{IsUtf8}
use Rattle.yf_lines.specs.Basic.{Clear}
use Rattle.yf_plain.specs.Plain.{PlainText}
use Rattle.yf_quoted.specs.Quoted.{SingleQuoted, DoubleQuoted}
use Rattle.yf_standard.specs.Contents.{Mark, marks, content, pieces}
use Rattle.yf_standard.specs.ContentLaws.{PlainContents, SingleContents, DoubleContents, LiteralContents, FoldedContents}
use Rattle.yf_standard.proofs.Meant.{means}
use Rattle.yf_standard.proofs.BasicsMeant.{Spells}
use Rattle.yf_standard.proofs.BasicsMeant.Spells.{spelled}
use Rattle.yf_standard.proofs.ContentAdded.{Adds, contents}
use Rattle.yf_standard.proofs.LiteralMeant.{LiteralText}
use Rattle.yf_standard.proofs.FoldedMeant.{Groups}
use Rattle.yf_standard.proofs.FoldedLines.{groups_mean}
use Rattle.yf_standard.proofs.BlockWhole.{BlockRead, literal_mean, block_whole}
use Rattle.yf_standard.proofs.Zones.{Zone}
use Rattle.yf_standard.proofs.Closed.{root_known}

-- all of the text up to an offset
abbrev pub zone : (t : List ℕ) → IsUtf8 t → ℕ → Zone t false
zone t u j = record { utf = u; low = 0; high = j; clear = λ q. absurd (true≢false (sym q)); root = λ q. root_known t u }

with_text : {S : ℕ → ℕ → List ℕ → Type 0} {i j : ℕ} {y : List Mark} → Spells S i j y → (x : List ℕ) × (S i j x × (y ≡ marks x))
with_text (spelled {x = x} s) = (x, (s, refl))

pub plain_contents : PlainContents
unfolding Adds
plain_contents t e i j n c u d =
    let m : Spells (PlainText t n c) i j (content d) = means (contents t (zone t u j)) (omega arith) (omega arith) d in with_text m

pub single_contents : SingleContents
unfolding Adds
single_contents t e i j n c u w d =
    let m : Clear t i j → Spells (SingleQuoted t n c) i j (content d) = means (contents t (zone t u j)) (omega arith) (omega arith) d in with_text (m w)

pub double_contents : DoubleContents
unfolding Adds
double_contents t e i j n c u w d =
    let m : Clear t i j → DoubleQuoted t n c i j (pieces (content d)) = means (contents t (zone t u j)) (omega arith) (omega arith) d in m w

pub literal_contents : LiteralContents
unfolding Adds
literal_contents t e i j k c u w s d =
    let m : (h : ℕ) → pos k ≡ pos h → BlockRead t (LiteralText t h) c h i j (content d) = means (contents t (zone t u j)) (omega arith) (omega arith) d in
    block_whole (λ z h o u a l e. literal_mean a) w s (m k refl)

pub folded_contents : FoldedContents
unfolding Adds
folded_contents t e i j k c u w s d =
    let m : (h : ℕ) → pos k ≡ pos h → BlockRead t (Groups t h) c h i j (content d) = means (contents t (zone t u j)) (omega arith) (omega arith) d in
    block_whole (λ z h o y a l e. groups_mean u w s (omega arith) a l e) w s (m k refl)
