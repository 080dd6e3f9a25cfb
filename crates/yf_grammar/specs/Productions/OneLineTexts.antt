-- Texts of nodes that are written on one line and read back: at each offset, and before any text that may follow, the
-- production derives such a text with its meaning from that offset on.
use Rattle.std.specs.Prelude.{ℕ, ◌+◌, ℤ, Bool, true, false, List, ◌++◌, length}
use Rattle.std.specs.Str.{IsUtf8}
use Rattle.yf_chars.specs.declared.context.Ctx.{Ctx}
use Rattle.yf_lines.specs.LineText.{IsLineText, Follows, is_after_name, is_after_text}
use Rattle.yf_lines.specs.Rest.{Rest}
use Rattle.yf_grammar.specs.Productions.Grammar.{Derives, NodeOf, JsonContent, Entry, Entries}
use Rattle.yf_grammar.specs.Productions.Meaning.{Meaning}

-- the characters that may follow: after a name a colon may not
abbrev pub follower : Bool → ℕ → Bool
follower true = is_after_text
follower false = is_after_name

-- w is read back as a node; `json` means that the node is like those of JSON, `colon` that a colon may follow at once
pub record Back (json colon : Bool) (c : Ctx) (w : List ℕ) (height : ℕ) (mean : ℕ → Meaning) : Type 0 where
  pub line : IsLineText w
  pub made : {t : List ℕ} (n : ℤ) (q : ℕ) (r : List ℕ) → IsUtf8 t → Follows (follower colon) r → Rest t q (w ++ r)
      → Derives t height (NodeOf json n c) q (q + length w) (mean q)

-- w is read back as a quoted scalar or a flow collection without properties
pub record JsonBack (c : Ctx) (w : List ℕ) (height : ℕ) (mean : ℕ → Meaning) : Type 0 where
  pub line : IsLineText w
  pub made : {t : List ℕ} (n : ℤ) (q : ℕ) (r : List ℕ) → IsUtf8 t → Rest t q (w ++ r) → Derives t height (JsonContent n c) q (q + length w) (mean q)

-- w is read back as an entry of a flow collection, before a comma or the closing bracket
pub record EntryBack (sequence : Bool) (c : Ctx) (w : List ℕ) (height : ℕ) (mean : ℕ → Meaning) : Type 0 where
  pub line : IsLineText w
  pub made : {t : List ℕ} (n : ℤ) (q : ℕ) (r : List ℕ) → IsUtf8 t → Follows is_after_name r → Rest t q (w ++ r)
      → Derives t height (Entry sequence n c) q (q + length w) (mean q)

-- w is read back as all entries of a flow collection, before the closing bracket
pub record EntriesBack (sequence : Bool) (c : Ctx) (w : List ℕ) (height : ℕ) (mean : ℕ → Meaning) : Type 0 where
  pub line : IsLineText w
  pub made : {t : List ℕ} (n : ℤ) (q : ℕ) (r : List ℕ) → IsUtf8 t → Follows is_after_name r → Rest t q (w ++ r)
      → Derives t height (Entries sequence n c) q (q + length w) (mean q)
