-- Laws of the results of a stream's readers, each under a plain sentence: they read exactly the parts that the grammar
-- derives. `proofs/Reader/PrefixLemmas.antt` and `proofs/Reader/DirectiveLaws.antt` prove them.
use Rattle.std.specs.Prelude.{◌≡◌, ℕ, List, ◌⊎◌, length}
use Rattle.std.specs.Str.{IsUtf8}
use Rattle.yf_chars.specs.Chain.{Chosen}
use Rattle.yf_chars.specs.Text.{code}
use Rattle.yf_lines.specs.Basic.{LineStart}
use Rattle.yf_comments.specs.Comment.{CommentValue}
use Rattle.yf_events.specs.declared.directive.Directive.{Directive}
use Rattle.yf_stream.specs.DirectiveReaders.{DirectivesRead}
use Rattle.yf_stream.specs.DocumentReaders.{PrefixRead}
use Rattle.yf_stream.specs.Stream.{DirectiveLines, Directives, Prefixes}

-- The text that is passed before a document, from the start of a line or at the end of the text, is the longest run of
-- document prefixes there.
abbrev pub PrefixesAreRead : Type 0
PrefixesAreRead = (t : List ℕ) (f i j : ℕ) (a b : List CommentValue) → LineStart t i ⊎ (i ≡ length t) → (p : PrefixRead t f i j a b)
    → Chosen (Prefixes t i) j p.upto.comments

-- If a `---` follows derived directives, they are the ones that are read, up to the `---`, with their comments.
abbrev pub DirectivesAreRead : Type 0
DirectivesAreRead = (t : List ℕ) (i j k : ℕ) (ds : List Directive) (a b : List CommentValue) (x : Directives) → IsUtf8 t → (r : DirectivesRead t i j ds a b)
    → DirectiveLines t i k x → code t k ≡ 45 → (k ≡ j) × (x.directives ≡ ds) × (x.comments ≡ r.upto.comments)
