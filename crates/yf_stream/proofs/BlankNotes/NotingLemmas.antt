-- The notes of blank lines before the entries of events: for events in sequence, and with another floor before a
-- visible character.
use Rattle.std.proofs.Common.{◌≡◌, ℕ, ◌<◌, ◌≤◌, Bool, false, ◌⊎◌, inl, ⊎_elim, List, [], ◌∷◌, ◌++◌, Option, Some, None, refl, sym, subst, arith}
use Rattle.std.specs.Str.{IsUtf8}
use Rattle.yf_chars.specs.Text.{code, no_char}
use Rattle.yf_comments.specs.Comments.{is_gap}
use Rattle.yf_props.specs.Props.{PropsValue}
use Rattle.yf_events.specs.Event.{EventValue, EventInText, alias_node, document_ends, document_starts, mapping_ends, mapping_starts, scalar_node, sequence_ends, sequence_starts, stream_ends, stream_starts}
use Rattle.yf_events.specs.Tree.{Items, Node, Pairs, flat, flat_items, flat_pairs, standing}
use Rattle.yf_events.specs.declared.event.Entry.{Entry}
use Rattle.yf_events.specs.declared.event.ScalarStyle.{ScalarStyle}
use Rattle.yf_events.specs.declared.event.ScalarStyle.TheVariants.{Double, Folded, Literal, Plain, Single}
use Rattle.yf_events.specs.declared.event.Span.{Span}
use Rattle.yf_grammar.specs.Productions.ReadParts.{Noting, NotedSince, end_or, floor_after_event, no_event, with_entry, without_entry}
use Rattle.yf_grammar.proofs.NodesInText.NodePlaces.{ItemsStand, ColonIsAt, NodeIsAt, PairsStand, a_colon, alias_is_at, item_is_at, mapping_is_at, no_colon, no_items_stand, no_pairs_stand, node_order, pair_is_at, scalar_is_at, sequence_is_at, is_at_nowhere, colon_order}
pub use Rattle.yf_block.specs.BlockTied.{floor_after as floor_of}
use Rattle.yf_stream.proofs.BlankNotes.FloorLemmas.{note_over}

pub noting_join : {t : List ℕ} {f : ℕ} {xs ys zs ws : List EventInText} → Noting t f xs ys → Noting t (floor_of f xs) zs ws → Noting t f (xs ++ zs) (ys ++ ws)
noting_join no_event n = n
noting_join (without_entry e r) n = without_entry e (noting_join r n)
noting_join (with_entry entry e s r) n = with_entry entry e s (noting_join r n)

pub floor_join : (f : ℕ) (xs ys : List EventInText) → floor_of f (xs ++ ys) ≡ floor_of (floor_of f xs) ys
floor_join f [] ys = refl
floor_join f (x ∷ xs) ys = floor_join (floor_after_event f x x.event) xs ys

-- entries begin after an offset
abbrev pub EntryAfter : ℕ → Option Entry → Type 0
EntryAfter p None = Unit {0}
EntryAfter p (Some e) = p < e.start

abbrev pub EntriesAfter : ℕ → List EventInText → Type 0
EntriesAfter p [] = Unit {0}
EntriesAfter p (e ∷ es) = EntryAfter p e.entry × EntriesAfter p es

-- two floors that are equal, or are both before an offset
abbrev pub Alike : ℕ → ℕ → ℕ → Type 0
Alike p f g = (f ≡ g) ⊎ ((f ≤ p) × (g ≤ p))

same_end : (p f g : ℕ) (o : Option Span) → Alike p f g → Alike p (end_or f o) (end_or g o)
same_end p f g None a = a
same_end p f g (Some s) a = inl refl

by_style : (p f g : ℕ) (e : EventInText) (props : PropsValue) (s : ScalarStyle) (x : List ℕ) → Alike p f g
    → Alike p (floor_after_event f e (scalar_node props s x)) (floor_after_event g e (scalar_node props s x))
by_style p f g e props Plain x a = a
by_style p f g e props Single x a = a
by_style p f g e props Double x a = a
by_style p f g e props Literal x a = same_end p f g e.span a
by_style p f g e props Folded x a = same_end p f g e.span a

alike_after : (p f g : ℕ) (e : EventInText) (v : EventValue) → Alike p f g → Alike p (floor_after_event f e v) (floor_after_event g e v)
alike_after p f g e stream_starts a = a
alike_after p f g e stream_ends a = a
alike_after p f g e (document_starts b) a = a
alike_after p f g e (document_ends b) a = a
alike_after p f g e (sequence_starts b q) a = a
alike_after p f g e sequence_ends a = a
alike_after p f g e (mapping_starts b q) a = a
alike_after p f g e mapping_ends a = a
alike_after p f g e (scalar_node q s x) a = by_style p f g e q s x a
alike_after p f g e (alias_node x) a = a

entry_there : {p : ℕ} {o : Option Entry} {entry : Entry} → o ≡ Some entry → EntryAfter p o → p < entry.start
entry_there {p} e a = subst (λ z. EntryAfter p z) e a

module _ {t : List ℕ} (u : IsUtf8 t) (p : ℕ) (real : code t p < no_char) (solid : is_gap (code t p) ≡ false) where
  one_over : {f g i : ℕ} {b : Bool} → Alike p f g → p < i → NotedSince t f i b → NotedSince t g i b
  one_over {i = i} {b = b} a l n =
      ⊎_elim (λ e. subst (λ z. NotedSince t z i b) e n) (λ o. note_over u p real solid o.1 o.0 l n) a

  pub noting_over : {f g : ℕ} {es ys : List EventInText} → Alike p f g → EntriesAfter p es → Noting t f es ys → Noting t g es ys
  noting_over a l no_event = no_event
  noting_over {f} {g} a l (without_entry {e = e} n r) = without_entry n (noting_over (alike_after p f g e e.event a) l.1 r)
  noting_over {f} {g} a l (with_entry {e = e} entry n s r) =
      with_entry entry n (one_over a (entry_there n l.0) s) (noting_over (alike_after p f g e e.event a) l.1 r)

-- the entries of a node after an offset begin after it
entries_join : (p : ℕ) (xs ys : List EventInText) → EntriesAfter p xs → EntriesAfter p ys → EntriesAfter p (xs ++ ys)
entries_join p [] ys a b = b
entries_join p (x ∷ xs) ys a b = (a.0, entries_join p xs ys a.1 b)

pub none_after : (p : ℕ) {o : Option Entry} → o ≡ None → EntryAfter p o
none_after p e = subst (λ z. EntryAfter p z) (sym e) tt

some_after : {p : ℕ} {o : Option Entry} (e : Entry) → o ≡ Some e → p < e.start → EntryAfter p o
some_after {p} e q l = subst (λ z. EntryAfter p z) (sym q) l

module _ {t : List ℕ} (p : ℕ) where
  mutual
    pub node_entries : {i j : ℕ} {x : Node} → p < i → NodeIsAt t i j x → EntryAfter p (standing x).entry → EntriesAfter p (flat x)
    node_entries l (is_at_nowhere m e) a = (a, tt)
    node_entries l (scalar_is_at e b m n w s) a = (a, tt)
    node_entries l (alias_is_at e b m n s) a = (a, tt)
    node_entries l (sequence_is_at {xs = xs} e b m n s) a = (a, entries_join p (flat_items xs) _ (items_entries (omega (arith, b.order, b.inner)) m) (tt, tt))
    node_entries l (mapping_is_at {ps = ps} e b m n s) a = (a, entries_join p (flat_pairs ps) _ (pairs_entries (omega (arith, b.order, b.inner)) m) (tt, tt))

    items_entries : {i j : ℕ} {xs : Items} → p < i → ItemsStand t i j xs → EntriesAfter p (flat_items xs)
    items_entries l (no_items_stand m) = tt
    items_entries l (item_is_at {x = x} {xs = xs} e q m a b) =
        let k : p < e.start = omega (arith, m.order) in
        entries_join p (flat x) (flat_items xs) (node_entries k a (some_after e q k)) (items_entries (omega (arith, m.order, node_order a)) b)

    pairs_entries : {i j : ℕ} {ps : Pairs} → p < i → PairsStand t i j ps → EntriesAfter p (flat_pairs ps)
    pairs_entries l (no_pairs_stand m) = tt
    pairs_entries l (pair_is_at {k = k} {v = v} {ps = ps} e q m a c b d) =
        let s : p < e.start = omega (arith, m.order) in
        entries_join p (flat k) _ (node_entries s a (some_after e q.key s))
        (entries_join p (flat v) (flat_pairs ps) (node_entries (omega (arith, node_order a, colon_order c)) b (none_after p q.value))
        (pairs_entries (omega (arith, node_order a, colon_order c, node_order b)) d))
