-- Laws of the offsets of a reading's nodes, each under a plain sentence. `proofs/NodeLawsHold.antt` proves them.
use Rattle.std.specs.Prelude.{◌≡◌, ◌≢◌, ℕ, true, List, flat_map, Some}
use Rattle.std.specs.List.{All}
use Rattle.std.specs.Str.{IsUtf8}
use Rattle.yf_chars.specs.Class.{is_ns_char}
use Rattle.yf_chars.specs.Text.{code}
use Rattle.yf_events.specs.Event.{EventInText}
use Rattle.yf_events.specs.Tree.{DocumentTree, TreesOf, items_in}
use Rattle.yf_events.specs.declared.event.Span.{Span}
use Rattle.yf_events.specs.declared.lists.Lists.{Lists}
use Rattle.yf_stream.specs.ReadingOf.{ReadingOf}

-- a visible character begins there, but no comment
pub record IsVisibleAt (t : List ℕ) (i : ℕ) : Type 0 where
  pub visible : is_ns_char (code t i) ≡ true
  pub no_hash : code t i ≢ 35

-- Each node of a reading begins with a visible character other than #, so no node begins at the start of a comment.
abbrev pub NodesOfReadingsBeginVisibly : Type 0
NodesOfReadingsBeginVisibly = (t : List ℕ) (r : Lists) → IsUtf8 t → ReadingOf t r
    → All (λ (e : EventInText). (s : Span) → e.span ≡ Some s → IsVisibleAt t s.start) r.events

-- So does each entry that begins with an item or a key of a reading's trees, and each leaf with characters: none begins
-- at the start of a comment.
abbrev pub ItemsOfReadingsBeginVisibly : Type 0
ItemsOfReadingsBeginVisibly = (t : List ℕ) (r : Lists) (trees : List DocumentTree) → IsUtf8 t → ReadingOf t r → TreesOf r trees
    → All (λ (i : ℕ). IsVisibleAt t i) (flat_map (λ (d : DocumentTree). items_in d.root) trees)
