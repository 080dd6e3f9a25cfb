-- A state that is ready from an offset on is ready from an earlier one.
use Rattle.std.proofs.Common.{◌≡◌, ℕ, ◌≤◌, List, [], ◌∷◌, ◌++◌, length, Some, None, Result, IfOk, arith, sym, ◌∙◌, subst}
use Rattle.std.proofs.lemmas.List.Elements.{All-pop}
use Rattle.std.proofs.lemmas.Result.{IfOk-weaker}
use Rattle.std.specs.List.{All}
use Rattle.std.specs.Str.{IsCharBoundary}
use Rattle.yf_chars.specs.Boundary.{BoundaryFrom}
use Rattle.yf_flow.specs.declared.frame.Frame.{Frame}
use Rattle.yf_flow.specs.declared.frame.FlowReader.{FlowReader}
use Rattle.yf_flow.specs.declared.frame.FlowContext.{FlowContext}
use Rattle.yf_flow.specs.declared.frame.Step.{Step}
use Rattle.yf_flow.specs.declared.frame.Step.TheVariants.{Node, Entry, Ended, Done, Failed, TooDeep}
use Rattle.yf_flow.specs.Machine.{EntryIsIn, EntryIsNext, StepReady, BegunAt, EndingAt}
use Rattle.yf_events.specs.declared.part.Part.{Part}
use Rattle.yf_flow.specs.declared.nodes.Ending.{Ending}
use Rattle.yf_flow.specs.declared.node.Begun.{Begun}
use Rattle.yf_flow.specs.declared.node.Begun.TheVariants.{Leaf, Opened, Nothing, TooDeep as TooDeepAt}
use Rattle.yf_flow.specs.StepContract.{Ready, StepPromises, SceneRead, At, Room, StepLeads, CollectionEnds}
use Rattle.yf_flow.specs.Depth.{AllCounted, EndCounted}
use Rattle.yf_flow.specs.CollectionEnds.{EndTied}
use Rattle.yf_flow.specs.StackMeaning.{Base, AtEntry}
use Rattle.yf_flow.proofs.Ends.Frames.{frames_more, pushed_longer}

place_from : {t : List ℕ} {a b p : ℕ} → b ≤ a → BoundaryFrom t a p → BoundaryFrom t b p
place_from l q = record { boundary = q.boundary; order = omega (arith, q.order) }

pub begun_from : (t : List ℕ) {a b : ℕ} (m k : ℕ) (x : Begun) → b ≤ a → BegunAt t a m k x → BegunAt t b m k x
begun_from t m k (Leaf node) l q = (record { boundary = q.0.boundary; order = omega (arith, q.0.order) }, q.1)
begun_from t m k (Opened f) l q = (record { boundary = q.0.boundary; order = omega (arith, q.0.order) }, q.1, q.2)
begun_from t m k Nothing l q = q
begun_from t m k (TooDeepAt p) l q = q

step_from : (t : List ℕ) {a b : ℕ} (m : ℕ) (top : Frame) (step : Step) → b ≤ a → StepReady t a m top step → StepReady t b m top step
step_from t m top (Node p) l q = (place_from l q.0, q.1)
step_from t m top (Entry p) l q = (place_from l q.0, q.1)
step_from t m top (Ended node) l q = (place_from l q.0, q.1)
step_from t m top (Done node) l q = place_from l q
step_from t m top Failed l q = q
step_from t m top (TooDeep p) l q = q

pub ready_from : {t : List ℕ} {a b : ℕ} {r : FlowReader} (s : Step) → b ≤ a → Ready t a r s → Ready t b r s
ready_from {t} {r = r} s l q = record { below = q.below; step = step_from t (length r.part.events) r.top s l q.step }

pub escapes_same : (t : List ℕ) (xs ys : List ℕ) → ys ≡ xs → All (IsCharBoundary t) xs → All (IsCharBoundary t) ys
escapes_same t xs ys e a = subst (λ z. All (IsCharBoundary t) z) (sym e) a

-- the result of a last call
pub led : {P Q : Base → Type 0} {C D : ℕ → Type 0} (scene : FlowContext) {a b : ℕ} (old mid new : FlowReader) {E : Type 0} (r : Result Step E) → IfOk r (StepLeads P C scene a mid new)
    → ((base : Base) → SceneRead scene base → Q base → P base) → ((total : ℕ) → D total → C total) → b ≤ a → mid.part.escapes ≡ old.part.escapes
    → IfOk r (StepLeads Q D scene b old new)
led {P} {Q} {C} {D} scene {a} {b} old mid new r h f g l e =
    IfOk-weaker r (StepLeads P C scene a mid new) (StepLeads Q D scene b old new)
    (λ s q. record {
      tied = λ base u x. q.tied base u (f base u x);
      counted = λ total x. q.counted total (g total x);
      stepped = record { ready = ready_from s l q.stepped.ready; moves = omega (arith, q.stepped.moves, l); same_escapes = q.stepped.same_escapes ∙ e };
    }) h

pub failed_stepped : {t xs : List ℕ} {at : ℕ} {new : FlowReader} → All (EntryIsIn t (length new.part.events)) new.below.items → new.part.escapes ≡ xs → StepPromises t at xs new Failed
failed_stepped b e = record { ready = record { below = b; step = tt }; moves = omega arith; same_escapes = e }

-- the end of a collection, if its reader took over the earlier events
pub collected : (scene : FlowContext) (at : ℕ) (old new : FlowReader) (first last : Part) {E : Type 0} (r : Result Ending E) → IfOk r (CollectionEnds scene at old new)
    → old.below.items ≡ [] → old.part ≡ first → last ≡ new.part
    → ((base : Base) → SceneRead scene base → AtEntry scene.text.now scene.indentation scene.context base [] old.top at first → IfOk r (λ e. EndTied scene.text.now scene.indentation base e last))
    × ((total : ℕ) → AllCounted scene.text.now total at [] old.top → IfOk r (λ e. EndCounted scene.text.now scene.limit total e))
    × IfOk r (λ e. EndingAt scene.text.now at e) × IfOk r (λ e. All (IsCharBoundary scene.text.now) last.escapes)
collected scene at old new first last r h i x y = (
  (λ base u a.
      let b : At AtEntry scene old at base = rw (i, x) a in
      IfOk-weaker r (CollectionEnds scene at old new) (λ e. EndTied scene.text.now scene.indentation base e last)
      (λ e q. subst (λ p. EndTied scene.text.now scene.indentation base e p) (sym y) (q.tied base u b)) h),
  (λ total a.
      let b : Room scene old at total = rw i a in
      IfOk-weaker r (CollectionEnds scene at old new) (λ e. EndCounted scene.text.now scene.limit total e) (λ e q. q.counted total b) h),
  IfOk-weaker r (CollectionEnds scene at old new) (λ e. EndingAt scene.text.now at e) (λ e q. q.found) h,
  IfOk-weaker r (CollectionEnds scene at old new) (λ e. All (IsCharBoundary scene.text.now) last.escapes) (λ e q. subst (λ p. All (IsCharBoundary scene.text.now) p.escapes) (sym y) q.escapes) h,
)

-- after a change of the frame
pub value_awaits : {t : List ℕ} {m : ℕ} (f g : Frame) → g.event ≡ f.event → g.entry_event ≡ f.entry_event → g.entry ≡ f.entry
    → EntryIsIn t m f → EntryIsNext t m g
value_awaits {t} f g a b d i = record {
  event = rw a i.event;
  entry = rw b (omega (arith, i.entry));
  place = subst (λ z. IsCharBoundary t z) (sym d) i.place;
}

pub entry_awaits : {t : List ℕ} {m : ℕ} (f g : Frame) → g.event ≡ f.event → g.entry_event ≡ m → IsCharBoundary t g.entry → EntryIsNext t m f → EntryIsNext t m g
entry_awaits f g d e p i = record { event = rw d i.event; entry = omega (arith, e); place = p }

-- after the innermost collection is closed
pub frames_popped : {t : List ℕ} {m k : ℕ} (frames all : List Frame) (outer : Frame) → all ≡ frames ++ outer ∷ [] → m ≤ k → All (EntryIsIn t m) all
    → All (EntryIsIn t k) frames × EntryIsIn t k outer
frames_popped {t} {m} {k} frames all outer e l a = All-pop (EntryIsIn t k) all frames (Some outer) e (frames_more m k all l a)

-- or there was none
pub frames_left : {t : List ℕ} {m k : ℕ} (frames all : List Frame) → all ≡ frames ++ [] → m ≤ k → All (EntryIsIn t m) all → All (EntryIsIn t k) frames
frames_left {t} {m} {k} frames all e l a = (All-pop (EntryIsIn t k) all frames None e (frames_more m k all l a)).0

pub indexed_as : {t : List ℕ} {m : ℕ} (f g : Frame) → g.event ≡ f.event → g.entry_event ≡ f.entry_event → g.entry ≡ f.entry → EntryIsIn t m f → EntryIsIn t m g
indexed_as {t} {m} f g a b d i = record {
  event = rw a i.event;
  entry = rw b i.entry;
  place = subst (λ z. IsCharBoundary t z) (sym d) i.place;
}

pub indexed_awaits : {t : List ℕ} {m : ℕ} {f : Frame} → EntryIsIn t m f → EntryIsNext t m f
indexed_awaits i = record { event = i.event; entry = omega (arith, i.entry); place = i.place }

-- after an event is added
module _ {t : List ℕ} {X : Type 0} (xs ys : List X) (x : X) where
  pub frames_event : (frames : List Frame) → ys ≡ xs ++ x ∷ [] → All (EntryIsIn t (length xs)) frames → All (EntryIsIn t (length ys)) frames
  frames_event frames e a = let l = pushed_longer xs ys x e in frames_more (length xs) (length ys) frames (omega (arith, l)) a

  pub indexed_event : (f : Frame) → ys ≡ xs ++ x ∷ [] → EntryIsIn t (length xs) f → EntryIsIn t (length ys) f
  indexed_event f e i = let l = pushed_longer xs ys x e in record { event = omega (arith, l, i.event); entry = omega (arith, l, i.entry); place = i.place }

  pub awaited_event : (f : Frame) → ys ≡ xs ++ x ∷ [] → EntryIsNext t (length xs) f → EntryIsIn t (length ys) f
  awaited_event f e i = let l = pushed_longer xs ys x e in record { event = omega (arith, l, i.event); entry = omega (arith, l, i.entry); place = i.place }
