-- The trees of `a: 1` and of `---`, `a: 1` match, and the documents begin on the same sides of all comments, since they
-- have none.
use Rattle.std.proofs.Common.{◌≡◌, ℕ, ◌+◌, List, [], ◌∷◌, false, Some, None, codes, refl, sym, ap, ◌∙◌}
use Rattle.std.specs.Prelude.{nat_lt}
use Rattle.yf_props.specs.Props.{no_props}
use Rattle.yf_events.specs.Tree.{Node, scalar, mapping, no_pairs, pair}
use Rattle.yf_events.specs.declared.event.ScalarStyle.TheVariants.{Plain}
use Rattle.yf_forms.specs.declared.style.Style.{Style}
use Rattle.yf_laws.specs.Preservation.ReadingKey.{HasPair, first_pair, later_pair, PairedOffsets, SameSide, SameSpan, one_each, none_each, colons_match, in_neither, in_both, NodesMatch, matched_scalars, matched_mappings, no_matched_pairs}

-- for each pair in turn
abbrev Sides : ℕ → ℕ → List (ℕ × ℕ) → Type 0
Sides a b [] = Unit {0}
Sides a b (p ∷ ps) = (nat_lt a p.0 ≡ nat_lt b p.1) × ((nat_lt p.0 a ≡ nat_lt p.1 b) × Sides a b ps)

before : (a b m n : ℕ) (ps : List (ℕ × ℕ)) → Sides a b ps → HasPair m n ps → nat_lt a m ≡ nat_lt b n
before a b m n [] h k = elim k [ ]
before a b m n (p ∷ ps) h (first_pair e f) = ap (λ z. nat_lt a z) (sym e) ∙ (h.0 ∙ ap (λ z. nat_lt b z) f)
before a b m n (p ∷ ps) h (later_pair k) = before a b m n ps h.1.1 k

after : (a b m n : ℕ) (ps : List (ℕ × ℕ)) → Sides a b ps → HasPair m n ps → nat_lt m a ≡ nat_lt n b
after a b m n [] h k = elim k [ ]
after a b m n (p ∷ ps) h (first_pair e f) = ap (λ z. nat_lt z a) (sym e) ∙ (h.1.0 ∙ ap (λ z. nat_lt z b) f)
after a b m n (p ∷ ps) h (later_pair k) = after a b m n ps h.1.1 k

sides : (a b : ℕ) (ps : List (ℕ × ℕ)) → Sides a b ps → SameSide ps a b
sides a b ps h = record { before = λ m n k. before a b m n ps h k; after = λ m n k. after a b m n ps h k }

abbrev pairs : PairedOffsets
pairs = record { comments = []; leaves = (0, 4) ∷ (3, 7) ∷ [] }

-- the two scalars and their mapping, that many bytes later
abbrev key_at : ℕ → Node
key_at n = scalar (record { span = Some (record { start = n; end = n + 1 }); tag_offset = None; entry = Some (record { start = n; colon = Some (n + 1); blank_before = false }) }) no_props Plain (codes "a") []

abbrev value_at : ℕ → Node
value_at n = scalar (record { span = Some (record { start = n; end = n + 1 }); tag_offset = None; entry = None }) no_props Plain (codes "1") []

abbrev tree_at : ℕ → Node
tree_at n = mapping (record { span = Some (record { start = n; end = n + 4 }); tag_offset = None; entry = None }) false no_props (pair (key_at n) (value_at (n + 3)) no_pairs)

key_span : SameSpan pairs (record { start = 0; end = 1 }) (record { start = 4; end = 5 })
key_span = record { paired = first_pair refl refl; among = sides 0 4 pairs.leaves (refl, (refl, (refl, (refl, tt)))); start = sides 0 4 [] tt; end = sides 1 5 [] tt }

value_span : SameSpan pairs (record { start = 3; end = 4 }) (record { start = 7; end = 8 })
value_span = record { paired = later_pair (first_pair refl refl); among = sides 3 7 pairs.leaves (refl, (refl, (refl, (refl, tt)))); start = sides 3 7 [] tt; end = sides 4 8 [] tt }

trees_match : (s : Style) → NodesMatch pairs s (tree_at 0) (tree_at 4)
trees_match s =
    matched_mappings refl in_neither (record { begins = refl; colon = colons_match (one_each (sides 1 5 [] tt) none_each) })
    (matched_scalars (in_both key_span) (in_both (record { start = sides 0 4 [] tt; blank = refl }))) (matched_scalars (in_both value_span) in_neither) no_matched_pairs

-- the document begins with its first leaf, and with its `---`
documents_match : SameSide pairs.comments 0 0
documents_match = sides 0 0 [] tt
