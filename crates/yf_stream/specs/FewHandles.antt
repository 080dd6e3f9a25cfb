-- The handles of a document that are looked up by their hashes, and all of them.
use Rattle.std.specs.Prelude.{◌≡◌, ℕ, ◌≤◌, List, length, None}
use Rattle.yf_props.specs.Handles.{Declaration, declared_prefix}

-- `few` declares no other handles than `all`, and has equal prefixes if `all` has at most 64 declarations
pub record FewOf (few all : List Declaration) : Type 0 where
  pub same : length all ≤ 64 → (handle : List ℕ) → declared_prefix few handle ≡ declared_prefix all handle
  pub others : (handle : List ℕ) → declared_prefix all handle ≡ None → declared_prefix few handle ≡ None
