-- When a formatted text is empty.
use Rattle.std.specs.Prelude.{◌≡◌, ℕ, List, []}
use Rattle.yf_events.specs.declared.lists.Lists.{Lists}
use Rattle.yf_stream.specs.ReadingOf.{ReadingOf}

-- u is empty if and only if t has neither a document nor a comment
pub record IsEmptyAlike (t u : List ℕ) : Type 0 where
  pub of_nothing : (r : Lists) → ReadingOf t r → r.documents ≡ [] → r.comments ≡ [] → u ≡ []
  pub of_none_else : (r : Lists) → ReadingOf t r → u ≡ [] → (r.documents ≡ []) × (r.comments ≡ [])
