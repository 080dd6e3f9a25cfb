-- The basic structures of YAML 1.2.2 (5.4 line breaks, 6.1 to 6.5) as relations between byte offsets of a text t.
-- n is an indentation, from -1; c is a context.
use Rattle.std.specs.Prelude.{◌≡◌, ◌≢◌, ℕ, ◌+◌, ◌-◌, ◌<◌, ◌≤◌, ℤ, pos, ◌<ℤ◌, Bool, true, false, ◌==◌, ◌&&◌, ◌||◌, List, [], ◌∷◌, ◌++◌}
use Rattle.yf_chars.specs.Signs.{BYTE_ORDER_MARK, CARRIAGE_RETURN, LINE_FEED, SPACE}
use Rattle.yf_chars.specs.declared.context.Ctx.{Ctx}
use Rattle.yf_chars.specs.declared.context.Ctx.TheVariants.{BlockOut, BlockIn, FlowOut, FlowIn, BlockKey, FlowKey}
use Rattle.yf_chars.specs.Text.{code, next}
use Rattle.yf_chars.specs.Class.{is_white, is_white_or_end}
use Rattle.yf_chars.specs.Chain.{Chain, Many}

-- the contexts by kind
abbrev pub is_block : Ctx → Bool
is_block BlockOut = true
is_block BlockIn = true
is_block FlowOut = false
is_block FlowIn = false
is_block BlockKey = false
is_block FlowKey = false

abbrev pub is_flow : Ctx → Bool
is_flow BlockOut = false
is_flow BlockIn = false
is_flow FlowOut = true
is_flow FlowIn = true
is_flow BlockKey = false
is_flow FlowKey = false

abbrev pub is_key : Ctx → Bool
is_key BlockOut = false
is_key BlockIn = false
is_key FlowOut = false
is_key FlowIn = false
is_key BlockKey = true
is_key FlowKey = true

-- b-break: a CR before a LF and that LF are one break, and neither is one by itself
pub data Break (t : List ℕ) : ℕ → ℕ → Type 0 where
  cr_lf : {i : ℕ} → code t i ≡ CARRIAGE_RETURN → code t (i + 1) ≡ LINE_FEED → Break t i (i + 2)
  lone_cr : {i : ℕ} → code t i ≡ CARRIAGE_RETURN → code t (i + 1) ≢ LINE_FEED → Break t i (i + 1)
  lone_lf : {i : ℕ} → code t i ≡ LINE_FEED → code t (i - 1) ≢ CARRIAGE_RETURN → Break t i (i + 1)

-- the start of a line: of the text, after a break, and after each byte order mark at such a start
pub data LineStart (t : List ℕ) : ℕ → Type 0 where
  at_text : LineStart t 0
  after_break : {i j : ℕ} → Break t i j → LineStart t j
  after_mark : {i : ℕ} → LineStart t i → code t i ≡ BYTE_ORDER_MARK → LineStart t (next t i)

-- k spaces from i on
pub record Spaces (t : List ℕ) (i k : ℕ) : Type 0 where
  pub each : (m : ℕ) → m < k → code t (i + m) ≡ SPACE

-- s-indent(n): n spaces; nothing is derived if n is negative
pub data Indent (t : List ℕ) (n : ℤ) : ℕ → ℕ → Type 0 where
  exactly : {i : ℕ} (k : ℕ) → n ≡ pos k → Spaces t i k → Indent t n i (i + k)

-- s-indent-less-than(n): fewer than n spaces
pub data IndentLess (t : List ℕ) (n : ℤ) : ℕ → ℕ → Type 0 where
  fewer : {i : ℕ} (k : ℕ) → pos k <ℤ n → Spaces t i k → IndentLess t n i (i + k)

-- s-separate-in-line: some white space, or nothing at the start of a line
pub data SeparateInLine (t : List ℕ) : ℕ → ℕ → Type 0 where
  by_whites : {i j : ℕ} {x : List ℕ} → Many t is_white i j x → i < j → SeparateInLine t i j
  at_start : {i : ℕ} → LineStart t i → SeparateInLine t i i

-- s-flow-line-prefix(n)
pub data FlowPrefix (t : List ℕ) (n : ℤ) : ℕ → ℕ → Type 0 where
  indented : {i j : ℕ} → Indent t n i j → FlowPrefix t n i j
  set_off : {i h j : ℕ} → Indent t n i h → SeparateInLine t h j → FlowPrefix t n i j

-- s-line-prefix(n,c); none in the two key contexts
pub data LinePrefix (t : List ℕ) (n : ℤ) (c : Ctx) : ℕ → ℕ → Type 0 where
  in_block : {i j : ℕ} → is_block c ≡ true → Indent t n i j → LinePrefix t n c i j
  in_flow : {i j : ℕ} → is_flow c ≡ true → FlowPrefix t n i j → LinePrefix t n c i j

-- l-empty(n,c): an empty line, which means a line feed
pub data Empty (t : List ℕ) (n : ℤ) (c : Ctx) : ℕ → ℕ → List ℕ → Type 0 where
  prefixed : {i h j : ℕ} → LinePrefix t n c i h → Break t h j → Empty t n c i j (LINE_FEED ∷ [])
  shorter : {i h j : ℕ} → IndentLess t n i h → Break t h j → Empty t n c i j (LINE_FEED ∷ [])

-- b-l-folded(n,c): a break before empty lines means their line feeds, and a break by itself means a space
pub data FoldedBreak (t : List ℕ) (n : ℤ) (c : Ctx) : ℕ → ℕ → List ℕ → Type 0 where
  trimmed : {i h k j : ℕ} {x y : List ℕ} → Break t i h → Empty t n c h k x → Chain (Empty t n c) k j y → FoldedBreak t n c i j (x ++ y)
  as_space : {i j : ℕ} → Break t i j → FoldedBreak t n c i j (SPACE ∷ [])

-- s-flow-folded(n): white space around a folded break has no meaning
pub data FlowFolded (t : List ℕ) (n : ℤ) : ℕ → ℕ → List ℕ → Type 0 where
  at_break : {i h j : ℕ} {x : List ℕ} → FoldedBreak t n FlowIn i h x → FlowPrefix t n h j → FlowFolded t n i j x
  past_whites : {i g h j : ℕ} {x : List ℕ} → SeparateInLine t i g → FoldedBreak t n FlowIn g h x → FlowPrefix t n h j → FlowFolded t n i j x

-- three of one character
unfoldable pub is_three : List ℕ → ℕ → ℕ → Bool
is_three t i c = (code t i == c) && ((code t (i + 1) == c) && (code t (i + 2) == c))

-- --- or ... before white space, a break or the end of the text (c-directives-end, c-document-end)
unfoldable pub is_marker : List ℕ → ℕ → Bool
is_marker t i = (is_three t i 45 || is_three t i 46) && is_white_or_end (code t (i + 3))

-- c-forbidden: a document marker at the start of a line
pub record ForbiddenLine (t : List ℕ) (i : ℕ) : Type 0 where
  pub start : LineStart t i
  pub marker : is_marker t i ≡ true

-- no forbidden line begins from i on before j, so a node may cover that span
pub record Clear (t : List ℕ) (i j : ℕ) : Type 0 where
  pub none : (h : ℕ) → i ≤ h → h < j → ForbiddenLine t h → ⊥
