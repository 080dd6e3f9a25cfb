-- The one-pass test accepts a list if and only if it is a well nested stream.
use Rattle.std.proofs.Common.{ℕ, suc, zero, ◌≤◌, ◌≡◌, Bool, true, List, [], ◌∷◌, ◌++◌, Some, refl, ◌∙◌, append_assoc, arith}
use Rattle.yf_props.specs.Props.{PropsValue}
use Rattle.yf_events.specs.Event.{EventValue, stream_starts, stream_ends, document_starts, document_ends, sequence_starts, sequence_ends, mapping_starts, mapping_ends}
use Rattle.yf_events.specs.Nested.{Shape, one_node, many_nodes, many_pairs, many_documents, NestsWithin, a_scalar, an_alias, a_sequence, a_mapping, no_nodes, more_nodes, no_pairs, more_pairs, no_documents, more_documents, IsStream, a_stream}
use Rattle.yf_events.specs.Nesting.{after_node, move_at, run, stay_if}
use Rattle.yf_events.specs.declared.nesting.NestingState.{NestingState}
use Rattle.yf_events.specs.declared.nesting.NestingState.TheVariants.{Stream, Documents, Root, Closing, Items, Keys, Values}

-- Complete: the pass goes over each part

abbrev Passes : Shape → ℕ → List EventValue → Type 0
Passes one_node d x = (room : ℕ) (f g : NestingState) (b : List NestingState) (y : List EventValue) → d ≤ room → after_node f ≡ Some g
    → run room f b (x ++ y) ≡ run room g b y
Passes many_nodes d x = (room : ℕ) (b : List NestingState) (y : List EventValue) → d ≤ room
    → run room Items b (x ++ y) ≡ run room Items b y
Passes many_pairs d x = (room : ℕ) (b : List NestingState) (y : List EventValue) → d ≤ room
    → run room Keys b (x ++ y) ≡ run room Keys b y
Passes many_documents d x = (room : ℕ) (b : List NestingState) (y : List EventValue) → d ≤ room
    → run room Documents b (x ++ y) ≡ run room Documents b y

leaf_step : (room : ℕ) (f g : NestingState) (b : List NestingState) (e : EventValue) (y : List EventValue)
    → move_at f e ≡ stay_if (after_node f) → after_node f ≡ Some g → run room f b (e ∷ y) ≡ run room g b y
unfolding run
leaf_step room f g b e y m h = rw (m, h) refl

sequence_step : (d room : ℕ) (f g : NestingState) (b : List NestingState) (flow : Bool) (props : PropsValue) (x y : List EventValue) → Passes many_nodes d x
    → suc d ≤ room → after_node f ≡ Some g → run room f b ((sequence_starts flow props ∷ (x ++ (sequence_ends ∷ []))) ++ y) ≡ run room g b y
unfolding run
sequence_step d zero f g b flow props x y p l h = absurd (omega arith)
sequence_step d (suc room) f g b flow props x y p l h =
    rw h (rw (append_assoc {A = EventValue} x (sequence_ends ∷ []) y) (p room (g ∷ b) (sequence_ends ∷ y) (omega arith)))

mapping_step : (d room : ℕ) (f g : NestingState) (b : List NestingState) (flow : Bool) (props : PropsValue) (x y : List EventValue) → Passes many_pairs d x
    → suc d ≤ room → after_node f ≡ Some g → run room f b ((mapping_starts flow props ∷ (x ++ (mapping_ends ∷ []))) ++ y) ≡ run room g b y
unfolding run
mapping_step d zero f g b flow props x y p l h = absurd (omega arith)
mapping_step d (suc room) f g b flow props x y p l h =
    rw h (rw (append_assoc {A = EventValue} x (mapping_ends ∷ []) y) (p room (g ∷ b) (mapping_ends ∷ y) (omega arith)))

document_step : (d room : ℕ) (b : List NestingState) (marked closed : Bool) (x y z : List EventValue) → Passes one_node d x → Passes many_documents d y
    → d ≤ room → run room Documents b ((document_starts marked ∷ (x ++ (document_ends closed ∷ y))) ++ z) ≡ run room Documents b z
unfolding run
document_step d room b marked closed x y z p q l =
    rw (append_assoc {A = EventValue} x (document_ends closed ∷ y) z) (p room Root Closing b (document_ends closed ∷ (y ++ z)) l refl ∙ q room b z l)

passes : {s : Shape} {d : ℕ} {x : List EventValue} → NestsWithin s d x → Passes s d x
passes a_scalar = λ room f g b y l h. leaf_step room f g b _ y refl h
passes an_alias = λ room f g b y l h. leaf_step room f g b _ y refl h
passes (a_sequence n) = λ room f g b y l h. sequence_step _ room f g b _ _ _ y (passes n) l h
passes (a_mapping n) = λ room f g b y l h. mapping_step _ room f g b _ _ _ y (passes n) l h
passes no_nodes = λ room b y l. refl
passes (more_nodes {x = x} {y = w} n m) = λ room b y l.
    rw (append_assoc {A = EventValue} x w y) (passes n room Items Items b (w ++ y) l refl ∙ passes m room b y l)
passes no_pairs = λ room b y l. refl
passes (more_pairs {k = k} {v = v} {y = w} n m o) = λ room b y l.
    rw (append_assoc {A = EventValue} k (v ++ w) y, append_assoc {A = EventValue} v w y)
    (passes n room Keys Values b (v ++ (w ++ y)) l refl ∙ passes m room Values Keys b (w ++ y) l refl ∙ passes o room b y l)
passes no_documents = λ room b y l. refl
passes (more_documents closed n m) = λ room b y l. document_step _ room b _ closed _ _ y (passes n) (passes m) l

stream_runs : {d : ℕ} {x : List EventValue} → NestsWithin many_documents d x → run d Stream [] (stream_starts ∷ (x ++ (stream_ends ∷ []))) ≡ true
unfolding run
stream_runs {d} n = passes n d [] (stream_ends ∷ []) (omega arith)

pub complete : {d : ℕ} {es : List EventValue} → IsStream d es → run d Stream [] es ≡ true
complete (a_stream n) = stream_runs n
