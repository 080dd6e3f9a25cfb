-- The meanings of the standard's productions: the laws that relate what a derivation adds to the content of a scalar
-- (`Contents`) to the relations of the readers of scalars, each with a plain sentence. `proofs/ContentLawsHold.antt`
-- proves them.
use Rattle.std.specs.Prelude.{◌≡◌, ℕ, ◌<◌, ℤ, pos, Bool, true, false, List, length, None, encode_utf8_all}
use Rattle.std.specs.Str.{IsUtf8}
use Rattle.yf_chars.specs.declared.context.Ctx.{Ctx}
use Rattle.yf_lines.specs.Basic.{Clear, LineStart}
use Rattle.yf_block_scalar.specs.declared.header.Chomp.{Chomp}
use Rattle.yf_block_scalar.specs.declared.header.Chomp.TheVariants.{Strip, Clip, Keep}
use Rattle.yf_block_scalar.specs.Body.{LinesTaken}
use Rattle.yf_block_scalar.specs.Content.{content_of}
use Rattle.yf_plain.specs.Plain.{PlainText}
use Rattle.yf_quoted.specs.Quoted.{SingleQuoted, DoubleQuoted}
use Rattle.yf_standard.specs.Notation.{Chomping}
use Rattle.yf_standard.specs.Notation.Chomping.{STRIP, CLIP, KEEP}
use Rattle.yf_standard.specs.Notation.Form.{ns-plain, c-single-quoted, c-double-quoted, l-literal-content, l-folded-content}
use Rattle.yf_standard.specs.Literal.{Derived}
use Rattle.yf_standard.specs.Rules.{read}
use Rattle.yf_standard.specs.Contents.{Mark, marks, content, pieces}

-- t of 8.1.1.2, as a header's word
abbrev pub chomp_of : Chomping → Chomp
chomp_of STRIP = Strip
chomp_of CLIP = Clip
chomp_of KEEP = Keep

-- the lines that a block scalar with k spaces takes from an offset on, and the content of these lines in that style and
-- chomping
pub record BlockContent (t : List ℕ) (folded : Bool) (c : Chomping) (k i : ℕ) (y : List Mark) : Type 0 where
  pub lines : List (List ℕ)
  pub left_open : Bool
  pub tail : ℕ
  pub end : ℕ
  pub taken : LinesTaken t k i lines left_open tail end
  pub text : List ℕ
  pub added : y ≡ marks text
  pub bytes : encode_utf8_all text ≡ content_of (record { folded = folded; digit = None; chomp = chomp_of c }) lines tail left_open

-- Each derivation of a plain scalar (131) means the text that is read.
abbrev pub PlainContents : Type 0
PlainContents = (t : List ℕ) (e i j : ℕ) (n : ℤ) (c : Ctx) → IsUtf8 t → (d : Derived (read t) t e (ns-plain n c) i j)
    → (x : List ℕ) × (PlainText t n c i j x × (content d ≡ marks x))

-- Each derivation of a single-quoted scalar (120) that covers no forbidden line means the text that is read.
abbrev pub SingleContents : Type 0
SingleContents = (t : List ℕ) (e i j : ℕ) (n : ℤ) (c : Ctx) → IsUtf8 t → Clear t i j → (d : Derived (read t) t e (c-single-quoted n c) i j)
    → (x : List ℕ) × (SingleQuoted t n c i j x × (content d ≡ marks x))

-- Each derivation of a double-quoted scalar (109) that covers no forbidden line means the pieces that are read: the
-- characters, and the escapes that write none, with their offsets.
abbrev pub DoubleContents : Type 0
DoubleContents = (t : List ℕ) (e i j : ℕ) (n : ℤ) (c : Ctx) → IsUtf8 t → Clear t i j → (d : Derived (read t) t e (c-double-quoted n c) i j)
    → DoubleQuoted t n c i j (pieces (content d))

-- Each derivation of the content of a literal scalar (173) that covers no forbidden line means the content of its
-- lines.
abbrev pub LiteralContents : Type 0
LiteralContents = (t : List ℕ) (e i j k : ℕ) (c : Chomping) → IsUtf8 t → Clear t i j → (i < length t → LineStart t i) → (d : Derived (read t) t e (l-literal-content (pos k) c) i j)
    → BlockContent t false c k i (content d)

-- Each derivation of the content of a folded scalar (182) that covers no forbidden line means the content of its lines.
abbrev pub FoldedContents : Type 0
FoldedContents = (t : List ℕ) (e i j k : ℕ) (c : Chomping) → IsUtf8 t → Clear t i j → (i < length t → LineStart t i)
    → (d : Derived (read t) t e (l-folded-content (pos k) c) i j) → BlockContent t true c k i (content d)
