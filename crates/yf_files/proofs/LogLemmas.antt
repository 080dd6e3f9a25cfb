-- The two logs of a file system in memory: their prefixes, and what may be found at earlier moments.
use Rattle.std.proofs.Common.{◌≡◌, ◌≢◌, ◌⊎◌, inl, inr, ⊎_elim, ℕ, zero, suc, ◌+◌, ◌≤◌, ◌==◌, true, false, List, [], ◌∷◌, ◌++◌, length, take, Option, Some, None, refl, sym, ◌∙◌, ap, subst, arith, length-append}
use Rattle.std.specs.Prelude.{if◌then◌else◌, string_bytes, slice_get}
use Rattle.std.specs.Str.{bytes_eq}
use Rattle.std.proofs.lemmas.Bool.{cond-true, cond-false}
use Rattle.std.proofs.lemmas.Bool.Decides.{nat_tests}
use Rattle.std.proofs.lemmas.List.{take-append-le}
use Rattle.std.proofs.lemmas.Slice.Eq.{bytes_eq-Decides}
use Rattle.std.proofs.lemmas.Option.{same_Some}
use Rattle.std.proofs.Math.Nat.{eq-or-lt_of_le}
use Rattle.std.proofs.Math.Seq.{take-length}
use Rattle.yf_files.specs.Memory.{FoundAt, FoundSince, HoldsContent, IsWell, changed, entry_from, entry_of, node_from, node_in, node_of, now_of, state_of}
use Rattle.yf_files.specs.Tree.{TimePasses, IsAt, Name, Node, regular}
use Rattle.yf_files.specs.declared.logs.Change.{Change}
use Rattle.yf_files.specs.declared.logs.FileContent.{FileContent}
use Rattle.yf_files.specs.declared.logs.Logs.{Logs}
use Rattle.yf_files.specs.declared.logs.Moment.{Moment}

-- ---- logs and their prefixes

pub entry_from-push : (before : Option ℕ) (q : Name) (xs : List Change) (c : Change) → entry_from before q (xs ++ c ∷ []) ≡ changed c q (entry_from before q xs)
entry_from-push before q [] c = refl
entry_from-push before q (x ∷ xs) c = entry_from-push (changed x q before) q xs c

node_from-push : (before : Node) (i : ℕ) (xs : List FileContent) (c : FileContent)
    → node_from before i (xs ++ c ∷ []) ≡ (if c.inode == i then node_in c.held else node_from before i xs)
node_from-push before i [] c = refl
node_from-push before i (x ∷ xs) c = node_from-push (if x.inode == i then node_in x.held else before) i xs c

-- a prefix of a log with one more item is a prefix of the log, or the whole new log
fronts : {A : Type 0} (xs : List A) (x : A) (k : ℕ) → k ≤ length (xs ++ x ∷ []) → (k ≤ length xs) ⊎ (k ≡ length (xs ++ x ∷ []))
fronts xs x k le = ⊎_elim (λ all. inr all) (λ less. inl (omega (arith, less, length-append xs (x ∷ [])))) (eq-or-lt_of_le le)

is_same : (q : Name) → bytes_eq q q ≡ true
is_same q = grind (arith, bytes_eq-Decides q q)

is_other : (q n : Name) → n ≢ q → bytes_eq n q ≡ false
is_other q n other = grind (arith, bytes_eq-Decides n q)

-- the inode that a change leaves at a name
pub changed_name : (c : Change) (q : Name) (o : Option ℕ) → string_bytes c.name ≡ q → changed c q o ≡ c.inode
changed_name c q o is = cond-true (bytes_eq (string_bytes c.name) q) _ _ (subst (λ (n : Name). bytes_eq n q ≡ true) (sym is) (is_same q))

pub changed_freed : (c : Change) (q : Name) (o : Option ℕ) → string_bytes c.name ≢ q → string_bytes c.freed ≡ q → changed c q o ≡ None
changed_freed c q o other is = cond-false (bytes_eq (string_bytes c.name) q) _ _ (is_other q (string_bytes c.name) other)
    ∙ cond-true (bytes_eq (string_bytes c.freed) q) _ _ (subst (λ (n : Name). bytes_eq n q ≡ true) (sym is) (is_same q))

pub changed_other : (c : Change) (q : Name) (o : Option ℕ) → string_bytes c.name ≢ q → string_bytes c.freed ≢ q → changed c q o ≡ o
changed_other c q o a b = cond-false (bytes_eq (string_bytes c.name) q) _ _ (is_other q (string_bytes c.name) a)
    ∙ cond-false (bytes_eq (string_bytes c.freed) q) _ _ (is_other q (string_bytes c.freed) b)

-- ---- earlier moments

pub slice_get-push : {A : Type 0} (xs : List A) (y : A) (j : ℕ) (m : A) → slice_get (xs ++ y ∷ []) j ≡ Some m → (slice_get xs j ≡ Some m) ⊎ ((j ≡ length xs) × (m ≡ y))
slice_get-push [] y zero m is = inr (refl, sym (same_Some y m is))
slice_get-push [] y (suc j) m is = inl is
slice_get-push (x ∷ xs) y zero m is = inl is
slice_get-push (x ∷ xs) y (suc j) m is = ⊎_elim (λ there. inl there) (λ last. inr (ap suc last.0, last.1)) (slice_get-push xs y j m is)

slice_get-kept : {A : Type 0} (xs : List A) (y : A) (j : ℕ) (m : A) → slice_get xs j ≡ Some m → slice_get (xs ++ y ∷ []) j ≡ Some m
slice_get-kept [] y j m is = grind (arith, is)
slice_get-kept (x ∷ xs) y zero m is = is
slice_get-kept (x ∷ xs) y (suc j) m is = slice_get-kept xs y j m is

slice_get-last : {A : Type 0} (xs : List A) (y : A) → slice_get (xs ++ y ∷ []) (length xs) ≡ Some y
slice_get-last [] y = refl
slice_get-last (x ∷ xs) y = slice_get-last xs y

-- if the first relation implies the second one, a node found by the first is found by the second
pub carried : (a b : ℕ → Node → Type 0) (o : Option ℕ) (x : Option Node) → ((i : ℕ) (n : Node) → a i n → b i n) → IsAt a o x → IsAt b o x
carried a b None x each is = is
carried a b (Some i) None each is = absurd is
carried a b (Some i) (Some n) each is = each i n is

-- what may be found at a moment depends only on prefixes that are no longer than the logs were at that moment
pub found : (ch dh : List Change) (co eo : List FileContent) (m : Moment) → ((k : ℕ) → k ≤ m.changes → take k ch ≡ take k dh) → ((k : ℕ) → k ≤ m.contents → take k co ≡ take k eo)
    → (q : Name) (x : Option Node) → FoundAt ch co m q x → FoundAt dh eo m q x
found ch dh co eo m a b q x (o, stood, has) =
    (o, (stood.0, stood.1, stood.2 ∙ ap (λ l. entry_of l q) (a stood.0 stood.1.1)), carried (HoldsContent co m) (HoldsContent eo m) o x held has)
  where
    held : (i : ℕ) (n : Node) → HoldsContent co m i n → HoldsContent eo m i n
    held i n h = (h.0, h.1, h.2 ∙ ap (λ l. node_of l i) (b h.0 h.1.1))

-- the logs have only grown
pub record Grown (old new : Logs) : Type 0 where
  pub changes : (k : ℕ) → k ≤ length old.changes.items → take k new.changes.items ≡ take k old.changes.items
  pub contents : (k : ℕ) → k ≤ length old.contents.items → take k new.contents.items ≡ take k old.contents.items

pub time_by : (old new : Logs) → IsWell old → Grown old new → new.moments.items ≡ old.moments.items ++ now_of old ∷ [] → old.next ≤ new.next → old.failures ≤ new.failures
    → old.failures + old.uncounted ≤ new.failures + new.uncounted → TimePasses (state_of old) (state_of new)
time_by old new well grown moments next failures uncounted = record {
  later = omega (arith, ap length moments, length-append old.moments.items (now_of old ∷ []));
  failures = failures;
  uncounted = uncounted;
  used = λ i used. omega (arith, used, next);
  nothing_else = λ t q x le since. ⊎_elim (λ now. inr now) (λ before. inl (past t q x before)) since;
  keeps = λ t q x le since. ⊎_elim (λ now. inr (this t q x le now)) (λ before. inr (other t q x before)) since;
}
  where
    is_last : slice_get new.moments.items (length old.moments.items) ≡ Some (now_of old)
    is_last = ap (λ l. slice_get l (length old.moments.items)) moments ∙ slice_get-last old.moments.items (now_of old)

    is_kept : (j : ℕ) (m : Moment) → slice_get old.moments.items j ≡ Some m → slice_get new.moments.items j ≡ Some m
    is_kept j m is = ap (λ l. slice_get l j) moments ∙ slice_get-kept old.moments.items (now_of old) j m is

    on : (m : Moment) → m.changes ≤ length old.changes.items → m.contents ≤ length old.contents.items → (q : Name) (x : Option Node)
        → FoundAt old.changes.items old.contents.items m q x → FoundAt new.changes.items new.contents.items m q x
    on m a b q x h = found old.changes.items new.changes.items old.contents.items new.contents.items m (λ k le. sym (grown.changes k (omega (arith, le, a))))
        (λ k le. sym (grown.contents k (omega (arith, le, b)))) q x h

    back : (m : Moment) → m.changes ≤ length old.changes.items → m.contents ≤ length old.contents.items → (q : Name) (x : Option Node)
        → FoundAt new.changes.items new.contents.items m q x → FoundAt old.changes.items old.contents.items m q x
    back m a b q x h = found new.changes.items old.changes.items new.contents.items old.contents.items m (λ k le. grown.changes k (omega (arith, le, a)))
        (λ k le. grown.contents k (omega (arith, le, b))) q x h

    Past : Logs → ℕ → Name → Option Node → Type 0
    Past l t q x = (j : ℕ) × (m : Moment) × (t ≤ j) × (slice_get new.moments.items j ≡ Some m) × FoundAt l.changes.items l.contents.items m q x

    this : (t : ℕ) (q : Name) (x : Option Node) → t ≤ length old.moments.items → FoundAt old.changes.items old.contents.items (now_of old) q x → Past new t q x
    this t q x le h = (length old.moments.items, now_of old, le, is_last, on (now_of old) (omega arith) (omega arith) q x h)

    other : (t : ℕ) (q : Name) (x : Option Node)
        → ((j : ℕ) × (m : Moment) × (t ≤ j) × (slice_get old.moments.items j ≡ Some m) × FoundAt old.changes.items old.contents.items m q x) → Past new t q x
    other t q x (j, m, le, is, h) = (j, m, le, is_kept j m is, on m (well.past_changes j m is) (well.past_contents j m is) q x h)

    past : (t : ℕ) (q : Name) (x : Option Node) → Past new t q x → FoundSince old.changes.items old.contents.items old.moments.items (now_of old) t q x
    past t q x (j, m, le, is, h) =
        let one_of = slice_get-push old.moments.items (now_of old) j m (ap (λ l. slice_get l j) (sym moments) ∙ is) in
        ⊎_elim (λ there. inr (j, m, le, there, back m (well.past_changes j m there) (well.past_contents j m there) q x h)) (λ last. inl (at_last m last.1 q x h)) one_of
      where
        at_last : (n : Moment) → n ≡ now_of old → (p : Name) (y : Option Node) → FoundAt new.changes.items new.contents.items n p y → FoundAt old.changes.items old.contents.items (now_of old) p y
        at_last n last p y h = back (now_of old) (omega arith) (omega arith) p y (subst (λ (v : Moment). FoundAt new.changes.items new.contents.items v p y) last h)

-- ---- logs that have grown

pub grown_same : (old new : Logs) → new.changes.items ≡ old.changes.items → new.contents.items ≡ old.contents.items → Grown old new
grown_same old new a b = record { changes = λ k le. ap (take k) a; contents = λ k le. ap (take k) b }

pub grown_change : (old new : Logs) (c : Change) → new.changes.items ≡ old.changes.items ++ c ∷ [] → new.contents.items ≡ old.contents.items → Grown old new
grown_change old new c a b = record { changes = λ k le. ap (take k) a ∙ take-append-le k old.changes.items (c ∷ []) le; contents = λ k le. ap (take k) b }

pub grown_content : (old new : Logs) (c : FileContent) → new.changes.items ≡ old.changes.items → new.contents.items ≡ old.contents.items ++ c ∷ [] → Grown old new
grown_content old new c a b = record { changes = λ k le. ap (take k) a; contents = λ k le. ap (take k) b ∙ take-append-le k old.contents.items (c ∷ []) le }

-- ---- names and contents after one more item

differs : (i j : ℕ) → i ≢ j → (j == i) ≡ false
differs i j other = grind (arith, nat_tests)

pub node_other : (old : Logs) (c : FileContent) (i : ℕ) → i ≢ c.inode → node_of (old.contents.items ++ c ∷ []) i ≡ node_of old.contents.items i
node_other old c i other = node_from-push (regular []) i old.contents.items c ∙ cond-false (c.inode == i) _ _ (differs i c.inode other)

pub node_given : (old : Logs) (c : FileContent) → node_of (old.contents.items ++ c ∷ []) c.inode ≡ node_in c.held
node_given old c = node_from-push (regular []) c.inode old.contents.items c ∙ cond-true (c.inode == c.inode) _ _ (grind (arith, nat_tests))

pub is_at_same : (old new : Logs) → new.changes.items ≡ old.changes.items → old.stored_changes ≤ new.stored_changes → (q : Name) (o : Option ℕ)
    → (state_of new).is_there q o → (state_of old).is_there q o
is_at_same old new same stored q o h = (h.0, (omega (arith, stored, h.1.0), subst (λ (l : List Change). h.0 ≤ length l) same h.1.1), h.2 ∙ ap (λ l. entry_of (take h.0 l) q) same)

pub holds_same : (old new : Logs) → new.contents.items ≡ old.contents.items → old.stored_contents ≤ new.stored_contents → (i : ℕ) (n : Node)
    → (state_of new).holds i n → (state_of old).holds i n
holds_same old new same stored i n h = (h.0, (omega (arith, stored, h.1.0), subst (λ (l : List FileContent). h.0 ≤ length l) same h.1.1), h.2 ∙ ap (λ l. node_of (take h.0 l) i) same)

pub is_at_pushed : (old new : Logs) (c : Change) → new.changes.items ≡ old.changes.items ++ c ∷ [] → new.stored_changes ≡ old.stored_changes → (q : Name) (o : Option ℕ)
    → (state_of new).is_there q o → (state_of old).is_there q o ⊎ (o ≡ changed c q (entry_of old.changes.items q))
is_at_pushed old new c more stored q o h = ⊎_elim
    (λ le. inl (h.0, (omega (arith, stored, h.1.0), le), here ∙ ap (λ l. entry_of l q) (take-append-le h.0 old.changes.items (c ∷ []) le)))
    (λ all. inr (here ∙ ap (λ k. entry_of (take k (old.changes.items ++ c ∷ [])) q) all ∙ ap (λ l. entry_of l q) (take-length (old.changes.items ++ c ∷ []))
    ∙ entry_from-push None q old.changes.items c))
    (fronts old.changes.items c h.0 (subst (λ (l : List Change). h.0 ≤ length l) more h.1.1))
  where
    here : o ≡ entry_of (take h.0 (old.changes.items ++ c ∷ [])) q
    here = h.2 ∙ ap (λ l. entry_of (take h.0 l) q) more

pub holds_pushed : (old new : Logs) (c : FileContent) → new.contents.items ≡ old.contents.items ++ c ∷ [] → new.stored_contents ≡ old.stored_contents → IsWell old → (i : ℕ) (n : Node) → i ≢ c.inode
    → (state_of new).holds i n → (state_of old).holds i n
holds_pushed old new c more stored well i n other h = ⊎_elim
    (λ le. (h.0, (omega (arith, stored, h.1.0), le), here ∙ ap (λ l. node_of l i) (take-append-le h.0 old.contents.items (c ∷ []) le)))
    (λ all. (
      length old.contents.items,
      (well.contents, omega arith),
      here ∙ ap (λ k. node_of (take k (old.contents.items ++ c ∷ [])) i) all
          ∙ ap (λ l. node_of l i) (take-length (old.contents.items ++ c ∷ [])) ∙ node_other old c i other
          ∙ ap (λ l. node_of l i) (sym (take-length old.contents.items)),
    ))
    (fronts old.contents.items c h.0 (subst (λ (l : List FileContent). h.0 ≤ length l) more h.1.1))
  where
    here : n ≡ node_of (take h.0 (old.contents.items ++ c ∷ [])) i
    here = h.2 ∙ ap (λ l. node_of (take h.0 l) i) more
