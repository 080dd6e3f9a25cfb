-- The events of rows that name nothing name nothing.
use Rattle.std.proofs.Common.{◌≡◌, ℕ, zero, suc, ◌+◌, ◌≤◌, ◌<◌, Bool, List, [], ◌∷◌, Option, Some, get_or, length, map, slice_get, option_map, refl, sym, ap, ◌∙◌, subst, inl, inr, arith}
use Rattle.std.specs.Prelude.{MatchBool}
use Rattle.std.proofs.lemmas.Bool.{cases_lt}
use Rattle.std.proofs.lemmas.Option.{same_Some, slice_get-get_or, slice_get-map, slice_get_within}
use Rattle.yf_props.specs.Props.{no_props}
use Rattle.yf_events.specs.Event.{EventValue, EventInText}
use Rattle.yf_events.specs.Packed.{more_at, props_in, row_value, shape_value, text_in}
use Rattle.yf_events.specs.NamelessEvents.{NamesNothing, NothingAt, SilentAt, SilentRow, names_nothing}
use Rattle.yf_events.specs.declared.packed.More.{More}
use Rattle.yf_events.specs.declared.packed.PackedEvent.{PackedEvent}
use Rattle.yf_events.specs.declared.packed.Shape.{Shape}
use Rattle.yf_events.specs.declared.packed.Shape.TheVariants.{StreamStart, StreamEnd, DocStart, DocEnd, SeqStart, SeqEnd, MapStart, MapEnd, Scalar, Alias}

-- whether or not an event names nothing
abbrev Tells : Bool → EventValue → Type 0
Tells b e = MatchBool b (NamesNothing e) (NamesNothing e → ⊥)

-- a row that has nothing in the table

shape_told : (s : Shape) (t : List ℕ) → Tells (names_nothing s) (shape_value s no_props t)
shape_told StreamStart t = tt
shape_told StreamEnd t = tt
shape_told (DocStart explicit) t = λ n. n
shape_told (DocEnd explicit) t = tt
shape_told (SeqStart flow) t = refl
shape_told SeqEnd t = tt
shape_told (MapStart flow) t = refl
shape_told MapEnd t = tt
shape_told (Scalar style) t = refl
shape_told Alias t = λ n. n

pub silent_alone : (more : List More) (r : PackedEvent) (b : Bool) → r.more ≡ 0 → b ≡ names_nothing r.shape → MatchBool b (SilentRow more r) (SilentRow more r → ⊥)
silent_alone more r b alone is =
    subst (λ n. Tells b (shape_value r.shape (props_in (more_at more n)) (text_in (more_at more n) r.text.now))) (sym alone)
    (subst (λ w. Tells w (shape_value r.shape no_props r.text.now)) (sym is) (shape_told r.shape r.text.now))

-- a row that has parts in the table

pub silent_with : (more : List More) (r : PackedEvent) (m : Option More) (e : EventValue) (b : Bool) → m ≡ more_at more r.more
    → e ≡ shape_value r.shape (props_in m) (text_in m r.text.now) → MatchBool b (NamesNothing e) (NamesNothing e → ⊥)
    → MatchBool b (SilentRow more r) (SilentRow more r → ⊥)
silent_with more r m e b at is told =
    subst (λ w. Tells b (shape_value r.shape (props_in w) (text_in w r.text.now))) at (subst (Tells b) is told)

-- the events of rows

row_there : (more : List More) (rows : List PackedEvent) (k : ℕ) (e : EventValue) → slice_get (map (λ (w : EventInText). w.event) (map (row_value more) rows)) k ≡ Some e
    → NamesNothing e → SilentAt more rows k
row_there more [] k e there names = cc
row_there more (r ∷ rows) zero e there names = record { row = r; there = refl; silent = subst NamesNothing (sym (same_Some _ _ there)) names }
row_there more (r ∷ rows) (suc k) e there names =
    let s = row_there more rows k e there names in
    record { row = s.row; there = s.there; silent = s.silent }

pub silent_seen : (more table : List More) (rows all : List PackedEvent) (vs : List EventInText) (k : ℕ) → table ≡ more → all ≡ rows → map (row_value more) rows ≡ vs
    → SilentAt table all k → NothingAt vs k
silent_seen more table rows all vs k lent same seen s =
    let r = s.row in record {
      event = (row_value more r).event;
      there = ap (λ w. slice_get (map (λ (e : EventInText). e.event) w) k) (sym seen) ∙ slice_get-map (λ (e : EventInText). e.event) (map (row_value more) rows) k
          ∙ ap (option_map (λ (e : EventInText). e.event)) (slice_get-map (row_value more) rows k ∙ ap (option_map (row_value more)) (ap (λ w. slice_get w k) (sym same) ∙ s.there));
      names = subst (λ w. SilentRow w r) lent s.silent;
    }

pub named_seen : (more table : List More) (rows all : List PackedEvent) (vs : List EventInText) (k : ℕ) → table ≡ more → all ≡ rows → map (row_value more) rows ≡ vs
    → (SilentAt table all k → ⊥) → NothingAt vs k → ⊥
named_seen more table rows all vs k lent same seen named n =
    let s : SilentAt more rows k = row_there more rows k n.event (ap (λ w. slice_get (map (λ (e : EventInText). e.event) w) k) seen ∙ n.there) n.names in
    named (subst (λ w. SilentAt w all k) (sym lent) (subst (λ w. SilentAt more w k) (sym same) s))

-- one row more
pub one_silent : (more : List More) (rows : List PackedEvent) (start at : ℕ) (d : PackedEvent) → at < length rows → SilentRow more (get_or rows at d)
    → ((k : ℕ) → start ≤ k → k < at → SilentAt more rows k) → (k : ℕ) → start ≤ k → k < at + 1 → SilentAt more rows k
one_silent more rows start at d within silent before k l m = elim (cases_lt k at) [
  | inl less ↦ before k l less
  | inr least ↦
      let same : at ≡ k = omega (arith, m, least) in
      subst (SilentAt more rows) same (record { row = get_or rows at d; there = slice_get-get_or rows at d within; silent = silent })
]

-- the first row that names something, or none

pub named_row : (more : List More) (rows : List PackedEvent) (at : ℕ) (d : PackedEvent) → at < length rows → (SilentRow more (get_or rows at d) → ⊥) → SilentAt more rows at → ⊥
named_row more rows at d within named s =
    named (subst (SilentRow more) (same_Some _ _ (sym s.there ∙ slice_get-get_or rows at d within)) s.silent)

pub no_row : (more : List More) (rows : List PackedEvent) (at : ℕ) → length rows ≤ at → SilentAt more rows at → ⊥
no_row more rows at past s = absurd (omega (arith, past, slice_get_within rows at s.row s.there))
