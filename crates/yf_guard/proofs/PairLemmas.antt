-- The facts that an open mapping keeps, against the definition on trees.
use Rattle.std.proofs.Common.{◌≡◌, ℕ, Bool, true, false, List, [], ◌∷◌, refl, sym, ap, ◌∙◌}
use Rattle.std.specs.Prelude.{◌&&◌, if◌then◌else◌}
use Rattle.yf_events.specs.Tree.{Node, scalar, alias, sequence, mapping, Items, no_items, item, Pairs, no_pairs, pair}
use Rattle.yf_guard.specs.Collections.{doubles_kind, is_empty_kind, is_template_seen, opened, seen_after, with_node}
use Rattle.yf_guard.specs.Guards.{doubles, has_no_values, is_empty, is_empty_scalar, is_template}
use Rattle.yf_guard.specs.Pass.{scalar_kind}
use Rattle.yf_guard.specs.declared.open_collection.NodeKind.{NodeKind}
use Rattle.yf_guard.specs.declared.open_collection.NodeKind.TheVariants.{Empty, Mapping, Other}
use Rattle.yf_guard.specs.declared.open_collection.OpenCollection.{OpenCollection}
use Rattle.yf_guard.specs.declared.open_collection.Seen.{Seen}
use Rattle.yf_guard.specs.declared.open_collection.Seen.TheVariants.{Nothing, First, Pair, More}

-- the kind of a node for the collection around it
abbrev pub kind : Node → NodeKind
kind (scalar at props style text lines) = scalar_kind props style text
kind (alias at name) = Other
kind (sequence at flow props items) = Other
kind (mapping at flow props pairs) = Mapping flow (has_no_values pairs)

empty_if : (b : Bool) → is_empty_kind (if b then Empty else Other) ≡ b
empty_if true = refl
empty_if false = refl

doubles_none : (flow b : Bool) → doubles_kind flow (if b then Empty else Other) ≡ false
doubles_none flow true = refl
doubles_none flow false = refl

empty_kind : (x : Node) → is_empty_kind (kind x) ≡ is_empty x
empty_kind (scalar at props style text lines) = empty_if (is_empty_scalar props style text)
empty_kind (alias at name) = refl
empty_kind (sequence at flow props items) = refl
empty_kind (mapping at flow props pairs) = refl

doubling_kind : (flow : Bool) (x : Node) → doubles_kind flow (kind x) ≡ doubles flow x
doubling_kind flow (scalar at props style text lines) = doubles_none flow (is_empty_scalar props style text)
doubling_kind flow (alias at name) = refl
doubling_kind flow (sequence at inner props items) = refl
doubling_kind flow (mapping at inner props pairs) = refl

-- the open collection after all nodes in it
abbrev pub after_items : Items → OpenCollection → OpenCollection
after_items no_items c = c
after_items (item x xs) c = after_items xs (with_node (kind x) c)

abbrev pub after_pairs : Pairs → OpenCollection → OpenCollection
after_pairs no_pairs c = c
after_pairs (pair k v ps) c = after_pairs ps (with_node (kind v) (with_node (kind k) c))

-- a mapping before a key
abbrev Map : ℕ → Bool → Bool → Seen → OpenCollection
Map offset flow none seen = record { offset = offset; flow = flow; at_value = false; has_no_values = none; seen = seen }

flow_kept : (ps : Pairs) (offset : ℕ) (flow none : Bool) (seen : Seen) → (after_pairs ps (Map offset flow none seen)).flow ≡ flow
flow_kept no_pairs offset flow none seen = refl
flow_kept (pair k v ps) offset flow none seen = flow_kept ps offset flow (none && is_empty_kind (kind v)) (seen_after flow (kind v) (seen_after flow (kind k) seen))

offset_kept : (ps : Pairs) (offset : ℕ) (flow none : Bool) (seen : Seen) → (after_pairs ps (Map offset flow none seen)).offset ≡ offset
offset_kept no_pairs offset flow none seen = refl
offset_kept (pair k v ps) offset flow none seen = offset_kept ps offset flow (none && is_empty_kind (kind v)) (seen_after flow (kind v) (seen_after flow (kind k) seen))

and_true : (a : Bool) → a ≡ (a && true)
and_true true = refl
and_true false = refl

and_assoc : (a b c : Bool) → ((a && b) && c) ≡ (a && (b && c))
and_assoc true b c = refl
and_assoc false b c = refl

values_kept : (ps : Pairs) (offset : ℕ) (flow none : Bool) (seen : Seen) → (after_pairs ps (Map offset flow none seen)).has_no_values ≡ (none && has_no_values ps)
values_kept no_pairs offset flow none seen = and_true none
values_kept (pair k v ps) offset flow none seen =
    values_kept ps offset flow (none && is_empty_kind (kind v)) (seen_after flow (kind v) (seen_after flow (kind k) seen))
    ∙ and_assoc none (is_empty_kind (kind v)) (has_no_values ps)
    ∙ ap (λ b. none && (b && has_no_values ps)) (empty_kind v)

more_kept : (ps : Pairs) (offset : ℕ) (flow none : Bool) → is_template_seen (after_pairs ps (Map offset flow none More)).seen ≡ false
more_kept no_pairs offset flow none = refl
more_kept (pair k v ps) offset flow none = more_kept ps offset flow (none && is_empty_kind (kind v))

-- the whole mapping
pub mapping_flow : (ps : Pairs) (offset : ℕ) (flow : Bool) → (after_pairs ps (opened flow offset)).flow ≡ flow
mapping_flow ps offset flow = flow_kept ps offset flow true Nothing

pub mapping_offset : (ps : Pairs) (offset : ℕ) (flow : Bool) → (after_pairs ps (opened flow offset)).offset ≡ offset
mapping_offset ps offset flow = offset_kept ps offset flow true Nothing

pub mapping_values : (ps : Pairs) (offset : ℕ) (flow : Bool) → (after_pairs ps (opened flow offset)).has_no_values ≡ has_no_values ps
mapping_values ps offset flow = values_kept ps offset flow true Nothing

pub mapping_template : (ps : Pairs) (offset : ℕ) (flow : Bool) → is_template_seen (after_pairs ps (opened flow offset)).seen ≡ is_template flow ps
mapping_template no_pairs offset flow = refl
mapping_template (pair k v no_pairs) offset flow = ap (λ b. b && is_empty_kind (kind v)) (doubling_kind flow k) ∙ ap (λ b. doubles flow k && b) (empty_kind v)
mapping_template (pair k v (pair l w ps)) offset flow = more_kept ps offset flow ((true && is_empty_kind (kind v)) && is_empty_kind (kind w))
