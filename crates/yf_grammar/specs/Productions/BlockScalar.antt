-- A block scalar as a node: its header, its lines and its end (YAML 1.2.2, section 8.1).
use Rattle.std.specs.Prelude.{◌≡◌, ℕ, ◌+◌, ℤ, Bool, true, false, List, [], ◌∷◌, ◌++◌, None, length}
use Rattle.yf_chars.specs.Chain.{Chain}
use Rattle.yf_lines.specs.Lines.{OneLine}
use Rattle.yf_lines.specs.declared.line.Line.{Line}
use Rattle.yf_block_scalar.specs.declared.header.Chomp.{Chomp}
use Rattle.yf_block_scalar.specs.declared.header.Chomp.TheVariants.{Strip, Clip, Keep}
use Rattle.yf_block_scalar.specs.Header.{BlockHeader, HeaderValue}
use Rattle.yf_block_scalar.specs.Body.{Body, BodyValue}
use Rattle.yf_block_scalar.specs.Content.{content_of}
use Rattle.yf_props.specs.Props.{no_props}
use Rattle.yf_events.specs.Event.{scalar_node}
use Rattle.yf_events.specs.declared.event.ScalarStyle.{ScalarStyle}
use Rattle.yf_events.specs.declared.event.ScalarStyle.TheVariants.{Literal, Folded}
use Rattle.yf_grammar.specs.Productions.Meaning.{Meaning, from_to}

abbrev pub style_of : Bool → ScalarStyle
style_of true = Folded
style_of false = Literal

-- the lines that are kept of a folded scalar
abbrev pub kept_lines : Bool → List (List ℕ) → List (List ℕ)
kept_lines true lines = lines
kept_lines false lines = []

-- the number of lines after its header that the scalar reaches: to its last content line, or through its kept tail
abbrev pub reach : Chomp → ℕ → ℕ → ℕ
reach Strip lines tail = lines
reach Clip lines tail = lines
reach Keep lines tail = lines + tail

-- `count` lines are from i to j
pub data LinesBetween (t : List ℕ) (count : ℕ) : ℕ → ℕ → Type 0 where
  counted : {i j : ℕ} {ls : List Line} → Chain (OneLine t) i j ls → length ls ≡ count → LinesBetween t count i j

-- c-l+literal(n) or c-l+folded(n): from the header to the first line that is not taken; the scalar ends at e
pub data BlockScalar (t : List ℕ) (n : ℤ) : ℕ → ℕ → Meaning → Type 0 where
  block_scalar : {i k e j : ℕ} {h : HeaderValue} {b : BodyValue} → BlockHeader t i k h → Body t n h.header k j b
      → LinesBetween t (reach h.header.chomp (length b.lines) b.tail) k e
      → BlockScalar t n i j (record {
        events = record {
          event = scalar_node no_props (style_of h.header.folded) (content_of h.header b.lines b.tail b.open_end);
          span = from_to i e;
          tag_offset = None;
          entry = None;
          folded = kept_lines h.header.folded b.lines;
        } ∷ [];
        comments = h.comments ++ b.comments;
        escapes = [];
        finish = e;
      })
