-- Each call of a file system in memory does what its relation states.
use Rattle.std.proofs.Common.{◌≡◌, ◌≢◌, ◌⊎◌, inl, inr, ⊎_elim, ℕ, ◌+◌, ◌<◌, ◌≤◌, Bool, true, false, [], ◌∷◌, ◌++◌, length, take, Option, Some, None, refl, sym, ◌∙◌, ap, subst, arith, length-append}
use Rattle.std.specs.Prelude.{if◌then◌else◌, string_bytes, slice_get, is_some, Result, Ok, Err, OnOk, OnErr}
use Rattle.std.specs.Str.{bytes_eq}
use Rattle.std.proofs.lemmas.Bool.{cases_lt}
use Rattle.std.proofs.lemmas.List.{take-append-le, take_all}
use Rattle.std.proofs.lemmas.Slice.Eq.{bytes_eq-Decides}
use Rattle.std.proofs.lemmas.Option.{none-some, same_Some}
use Rattle.std.proofs.Math.Seq.{take-length}
use Rattle.yf_files.specs.Calls.{FileMade, FileRemoved, RenameCall, Stays, WriteChanges}
use Rattle.yf_files.specs.Memory.{LogChanged, CallFails, FoundAt, ContentAdded, IsWell, InodeMade, MomentPasses, changed, entry_of, node_of, now_of, state_of}
use Rattle.yf_files.specs.Tree.{TimePasses, Name, Node}
use Rattle.yf_files.specs.declared.logs.Change.{Change}
use Rattle.yf_files.specs.declared.logs.Logs.{Logs}
use Rattle.yf_files.specs.declared.logs.Moment.{Moment}
use Rattle.yf_files.proofs.LogLemmas.{entry_from-push, changed_name, changed_freed, changed_other, slice_get-push, found, time_by, grown_same, grown_change, grown_content, node_other, node_given, is_at_same, holds_same, is_at_pushed, holds_pushed, Grown}

-- ---- a moment passes, and a call fails

stays_by : (old new : Logs) → new.changes.items ≡ old.changes.items → new.contents.items ≡ old.contents.items → old.stored_changes ≤ new.stored_changes
    → old.stored_contents ≤ new.stored_contents → new.made ≡ old.made → Stays (state_of old) (state_of new)
stays_by old new a b stored_a stored_b made = record {
  entry = λ q. ap (λ l. entry_of l q) a;
  node = λ i. ap (λ l. node_of l i) b;
  is_there = is_at_same old new a stored_a;
  holds = holds_same old new b stored_b;
  made = made;
}

pub stays_passes : (old new : Logs) → MomentPasses old new → Stays (state_of old) (state_of new)
stays_passes old new p = stays_by old new p.changes p.contents (omega (arith, p.stored_changes)) (omega (arith, p.stored_contents)) p.made

pub stays_fails : (old new : Logs) → CallFails old new → Stays (state_of old) (state_of new)
stays_fails old new p = stays_by old new p.changes p.contents (omega (arith, p.stored_changes)) (omega (arith, p.stored_contents)) p.made

pub stays_failing : (old mid new : Logs) → MomentPasses old mid → CallFails mid new → Stays (state_of old) (state_of new)
stays_failing old mid new p f = stays_by old new (f.changes ∙ p.changes) (f.contents ∙ p.contents) (omega (arith, p.stored_changes, f.stored_changes))
    (omega (arith, p.stored_contents, f.stored_contents)) (f.made ∙ p.made)

pub time_passes : (old new : Logs) → IsWell old → MomentPasses old new → TimePasses (state_of old) (state_of new)
time_passes old new well p = time_by old new well (grown_same old new p.changes p.contents) p.moments (omega (arith, p.next)) (omega (arith, p.failures)) (omega (arith, p.failures, p.uncounted))

-- a call fails at the moment at which it began
pub time_fails : (old new : Logs) → CallFails old new → TimePasses (state_of old) (state_of new)
time_fails old new f = record {
  later = omega (arith, ap length f.moments);
  failures = f.failures;
  uncounted = f.uncounted;
  used = λ i used. omega (arith, used, f.next);
  nothing_else = λ t q x le since. ⊎_elim (λ now. inr now) (λ h. inl (inr (h.0, h.1, h.2, ap (λ l. slice_get l h.0) (sym f.moments) ∙ h.3, back h.1 q x h.4))) since;
  keeps = λ t q x le since. ⊎_elim (λ now. inl (now_still q x now)) (λ h. inr (h.0, h.1, h.2, ap (λ l. slice_get l h.0) f.moments ∙ h.3, on h.1 q x h.4)) since;
}
  where
    on : (m : Moment) (q : Name) (x : Option Node) → FoundAt old.changes.items old.contents.items m q x → FoundAt new.changes.items new.contents.items m q x
    on m q x h = found old.changes.items new.changes.items old.contents.items new.contents.items m (λ k le. ap (take k) (sym f.changes)) (λ k le. ap (take k) (sym f.contents)) q x h

    back : (m : Moment) (q : Name) (x : Option Node) → FoundAt new.changes.items new.contents.items m q x → FoundAt old.changes.items old.contents.items m q x
    back m q x h = found new.changes.items old.changes.items new.contents.items old.contents.items m (λ k le. ap (take k) f.changes) (λ k le. ap (take k) f.contents) q x h

    moment : now_of old ≡ now_of new
    moment = sym (ap4 f)
      where
        ap4 : CallFails old new → now_of new ≡ now_of old
        ap4 g = search (g.changes, g.contents, g.stored_changes, g.stored_contents)

    now_still : (q : Name) (x : Option Node) → FoundAt old.changes.items old.contents.items (now_of old) q x → FoundAt new.changes.items new.contents.items (now_of new) q x
    now_still q x h = subst (λ (m : Moment). FoundAt new.changes.items new.contents.items m q x) moment (on (now_of old) q x h)

pub time_failing : (old mid new : Logs) → IsWell old → MomentPasses old mid → CallFails mid new → TimePasses (state_of old) (state_of new)
time_failing old mid new well p f = time_by old new well (grown_same old new (f.changes ∙ p.changes) (f.contents ∙ p.contents)) (f.moments ∙ p.moments)
    (omega (arith, p.next, f.next)) (omega (arith, p.failures, f.failures)) (omega (arith, p.failures, p.uncounted, f.uncounted))

-- ---- the logs stay consistent

well_by : (old new : Logs) → IsWell old → Grown old new → length old.changes.items ≤ length new.changes.items → length old.contents.items ≤ length new.contents.items
    → new.stored_changes ≤ length new.changes.items → new.stored_contents ≤ length new.contents.items
    → ((j : ℕ) (m : Moment) → slice_get new.moments.items j ≡ Some m → (slice_get old.moments.items j ≡ Some m) ⊎ (m ≡ now_of old))
    → ((k : ℕ) (q : Name) (i : ℕ) → entry_of (take k new.changes.items) q ≡ Some i → i < new.next) → IsWell new
well_by old new well grown more_changes more_contents stored_changes stored_contents moments used = record {
  changes = stored_changes;
  contents = stored_contents;
  past_changes = λ j m is. ⊎_elim (λ there. omega (arith, more_changes, well.past_changes j m there)) (λ now. omega (arith, more_changes, ap (λ (n : Moment). n.changes) now)) (moments j m is);
  past_contents = λ j m is. ⊎_elim (λ there. omega (arith, more_contents, well.past_contents j m there)) (λ now. omega (arith, more_contents, ap (λ (n : Moment). n.contents) now)) (moments j m is);
  used = used;
}

same_moments : (old new : Logs) → new.moments.items ≡ old.moments.items → (j : ℕ) (m : Moment) → slice_get new.moments.items j ≡ Some m → (slice_get old.moments.items j ≡ Some m) ⊎ (m ≡ now_of old)
same_moments old new same j m is = inl (ap (λ l. slice_get l j) (sym same) ∙ is)

same_used : (old new : Logs) → IsWell old → new.changes.items ≡ old.changes.items → old.next ≤ new.next → (k : ℕ) (q : Name) (i : ℕ)
    → entry_of (take k new.changes.items) q ≡ Some i → i < new.next
same_used old new well same next k q i is = omega (arith, next, well.used k q i (ap (λ l. entry_of (take k l) q) (sym same) ∙ is))

pub well_passes : (old new : Logs) → IsWell old → MomentPasses old new → IsWell new
well_passes old new well p = well_by old new well (grown_same old new p.changes p.contents) (omega (arith, ap length p.changes)) (omega (arith, ap length p.contents))
    (omega (arith, ap length p.changes, p.stored_changes, well.changes)) (omega (arith, ap length p.contents, p.stored_contents, well.contents))
    (λ j m is. ⊎_elim (λ there. inl there) (λ last. inr last.1) (slice_get-push old.moments.items (now_of old) j m (ap (λ l. slice_get l j) (sym p.moments) ∙ is)))
    (same_used old new well p.changes (omega (arith, p.next)))

pub well_fails : (old new : Logs) → IsWell old → CallFails old new → IsWell new
well_fails old new well p = well_by old new well (grown_same old new p.changes p.contents) (omega (arith, ap length p.changes)) (omega (arith, ap length p.contents))
    (omega (arith, ap length p.changes, p.stored_changes, well.changes)) (omega (arith, ap length p.contents, p.stored_contents, well.contents))
    (same_moments old new p.moments) (same_used old new well p.changes (omega (arith, p.next)))

pub well_gives : (old new : Logs) (i : ℕ) (node : Node) → IsWell old → ContentAdded old new i node → IsWell new
well_gives old new i node well p =
    let more : length new.contents.items ≡ length old.contents.items + 1 = ap length p.contents ∙ length-append old.contents.items (p.content ∷ []) in
    well_by old new well (grown_content old new p.content p.changes p.contents) (omega (arith, ap length p.changes)) (omega (arith, more))
    (omega (arith, ap length p.changes, p.stored_changes, well.changes)) (omega (arith, more, p.stored_contents, well.contents))
    (same_moments old new p.moments) (same_used old new well p.changes (omega (arith, p.next)))

-- ---- a name is assigned or removed

pushed_length : (old new : Logs) (c : Change) → new.changes.items ≡ old.changes.items ++ c ∷ [] → length new.changes.items ≡ length old.changes.items + 1
pushed_length old new c more = ap length more ∙ length-append old.changes.items (c ∷ [])

used_pushed : (old new : Logs) (c : Change) → IsWell old → new.changes.items ≡ old.changes.items ++ c ∷ [] → old.next ≤ new.next → ((i : ℕ) → c.inode ≡ Some i → i < new.next)
    → (k : ℕ) (q : Name) (i : ℕ) → entry_of (take k new.changes.items) q ≡ Some i → i < new.next
used_pushed old new c well more next of_change k q i is = ⊎_elim shorter (λ less. longer (omega (arith, less))) (cases_lt (length old.changes.items) k)
  where
    here : (j : ℕ) → entry_of (take j (old.changes.items ++ c ∷ [])) q ≡ entry_of (take j new.changes.items) q
    here j = ap (λ l. entry_of (take j l) q) (sym more)

    longer : k ≤ length old.changes.items → i < new.next
    longer le = omega (arith, next, well.used k q i (ap (λ l. entry_of l q) (sym (take-append-le k old.changes.items (c ∷ []) le)) ∙ here k ∙ is))

    all : length old.changes.items < k → entry_of (take k (old.changes.items ++ c ∷ [])) q ≡ changed c q (entry_of old.changes.items q)
    all less = ap (λ l. entry_of l q) (take_all k (old.changes.items ++ c ∷ []) (omega (arith, less, length-append old.changes.items (c ∷ [])))) ∙ entry_from-push None q old.changes.items c

    before : (j : ℕ) → entry_of old.changes.items q ≡ Some j → j < new.next
    before j stood = omega (arith, next, well.used (length old.changes.items) q j (ap (λ l. entry_of l q) (take-length old.changes.items) ∙ stood))

    by_case : (a b : Bool) → (if a then c.inode else (if b then None else entry_of old.changes.items q)) ≡ Some i → i < new.next
    by_case true b e = of_change i e
    by_case false true e = absurd (none-some i e)
    by_case false false e = before i e

    shorter : length old.changes.items < k → i < new.next
    shorter less = by_case (bytes_eq (string_bytes c.name) q) (bytes_eq (string_bytes c.freed) q) (sym (all less) ∙ here k ∙ is)

pub well_changes : (old new : Logs) (n f : Name) (o : Option ℕ) → IsWell old → LogChanged old new n f o → ((i : ℕ) → o ≡ Some i → i < old.next) → IsWell new
well_changes old new n f o well p of_change =
    let more = pushed_length old new p.change p.changes in
    well_by old new well (grown_change old new p.change p.changes p.contents) (omega (arith, more)) (omega (arith, ap length p.contents))
    (omega (arith, more, p.stored_changes, well.changes)) (omega (arith, ap length p.contents, p.stored_contents, well.contents))
    (same_moments old new p.moments) (used_pushed old new p.change well p.changes (omega (arith, p.next)) (λ i is. omega (arith, p.next, of_change i (sym p.inode_is ∙ is))))

pub well_makes : (old new : Logs) (n : Name) → IsWell old → InodeMade old new n → IsWell new
well_makes old new n well p =
    let more = pushed_length old new p.change p.changes in
    well_by old new well (grown_change old new p.change p.changes p.contents) (omega (arith, more)) (omega (arith, ap length p.contents))
    (omega (arith, more, p.stored_changes, well.changes)) (omega (arith, ap length p.contents, p.stored_contents, well.contents))
    (same_moments old new p.moments)
    (used_pushed old new p.change well p.changes (omega (arith, p.next)) (λ i is. omega (arith, p.next, same_Some old.next i (sym p.inode_is ∙ is))))

-- the inode at a name is a used inode
pub entry_used : (l : Logs) (q : Name) (i : ℕ) → IsWell l → entry_of l.changes.items q ≡ Some i → i < l.next
entry_used l q i well is = well.used (length l.changes.items) q i (ap (λ c. entry_of c q) (take-length l.changes.items) ∙ is)

pub time_changes : (old mid new : Logs) (n f : Name) (o : Option ℕ) → IsWell old → MomentPasses old mid → LogChanged mid new n f o → TimePasses (state_of old) (state_of new)
time_changes old mid new n f o well p c = time_by old new well (grown_change old new c.change (c.changes ∙ ap (λ l. l ++ c.change ∷ []) p.changes) (c.contents ∙ p.contents))
    (c.moments ∙ p.moments) (omega (arith, p.next, c.next)) (omega (arith, p.failures, c.failures)) (omega (arith, p.failures, p.uncounted, c.failures, c.uncounted))

pub time_makes : (old mid new : Logs) (n : Name) → IsWell old → MomentPasses old mid → InodeMade mid new n → TimePasses (state_of old) (state_of new)
time_makes old mid new n well p c = time_by old new well (grown_change old new c.change (c.changes ∙ ap (λ l. l ++ c.change ∷ []) p.changes) (c.contents ∙ p.contents))
    (c.moments ∙ p.moments) (omega (arith, p.next, c.next)) (omega (arith, p.failures, c.failures)) (omega (arith, p.failures, p.uncounted, c.failures, c.uncounted))

-- the inode at each name after a change
entry_after : (old new : Logs) (c : Change) → new.changes.items ≡ old.changes.items ++ c ∷ [] → (q : Name) → entry_of new.changes.items q ≡ changed c q (entry_of old.changes.items q)
entry_after old new c more q = ap (λ l. entry_of l q) more ∙ entry_from-push None q old.changes.items c

-- if a change leaves a name as it is, nothing else may be found there
is_at_other : (old new : Logs) (c : Change) → IsWell old → new.changes.items ≡ old.changes.items ++ c ∷ [] → new.stored_changes ≡ old.stored_changes → (q : Name) (o : Option ℕ)
    → changed c q (entry_of old.changes.items q) ≡ entry_of old.changes.items q → (state_of new).is_there q o → (state_of old).is_there q o
is_at_other old new c well more stored q o same h = ⊎_elim (λ before. before)
    (λ now. (length old.changes.items, (well.changes, omega arith), now ∙ same ∙ ap (λ l. entry_of l q) (sym (take-length old.changes.items)))) (is_at_pushed old new c more stored q o h)

pub removed : (old mid new : Logs) (n : Name) → IsWell old → MomentPasses old mid → LogChanged mid new n n None → FileRemoved (state_of old) (state_of new) n
removed old mid new n well p c = record {
  gone = entry_after old new c.change more n ∙ changed_name c.change n _ c.named ∙ c.inode_is;
  entry = λ q other. entry_after old new c.change more q ∙ kept q other;
  node = λ i. ap (λ l. node_of l i) (c.contents ∙ p.contents);
  is_there = λ q o other h. is_at_other old new c.change well more (c.stored_changes ∙ p.stored_changes) q o (kept q other) h;
  holds = holds_same old new (c.contents ∙ p.contents) (omega (arith, c.stored_contents, p.stored_contents));
  made = c.made ∙ p.made;
}
  where
    more : new.changes.items ≡ old.changes.items ++ c.change ∷ []
    more = c.changes ∙ ap (λ l. l ++ c.change ∷ []) p.changes

    kept : (q : Name) → q ≢ n → changed c.change q (entry_of old.changes.items q) ≡ entry_of old.changes.items q
    kept q other = changed_other c.change q _ (λ is. other (sym is ∙ c.named)) (λ is. other (sym is ∙ c.frees))

pub made : (old mid new : Logs) (n : Name) → IsWell old → MomentPasses old mid → InodeMade mid new n → FileMade (state_of old) (state_of new) n
made old mid new n well p c = record {
  was = ap (λ l. entry_of l n) (sym p.changes) ∙ c.was;
  is = entry_after old new c.change more n ∙ changed_name c.change n _ c.named ∙ c.inode_is ∙ ap Some (sym c.made);
  fresh = λ used. absurd (omega (arith, used, c.made, p.next));
  entry = λ q other. entry_after old new c.change more q ∙ kept q other;
  node = λ i _. ap (λ l. node_of l i) (c.contents ∙ p.contents);
  is_there = λ q o other h. is_at_other old new c.change well more (c.stored_changes ∙ p.stored_changes) q o (kept q other) h;
  holds = λ i x _ h. holds_same old new (c.contents ∙ p.contents) (omega (arith, c.stored_contents, p.stored_contents)) i x h;
}
  where
    more : new.changes.items ≡ old.changes.items ++ c.change ∷ []
    more = c.changes ∙ ap (λ l. l ++ c.change ∷ []) p.changes

    kept : (q : Name) → q ≢ n → changed c.change q (entry_of old.changes.items q) ≡ entry_of old.changes.items q
    kept q other = changed_other c.change q _ (λ is. other (sym is ∙ c.named)) (λ is. other (sym is ∙ c.frees))

pub renamed : (old mid new : Logs) (from to : Name) (o : Option ℕ) → IsWell old → MomentPasses old mid → o ≡ entry_of mid.changes.items from → LogChanged mid new to from o
    → RenameCall (state_of old) (state_of new) from to
renamed old mid new from to o well p was c apart = record {
  gone = entry_after old new c.change more from ∙ changed_freed c.change from _ (λ is. apart (ap (entry_of old.changes.items) (sym is ∙ c.named))) c.frees;
  is = entry_after old new c.change more to ∙ moved to refl;
  entry = λ q a b. entry_after old new c.change more q ∙ kept q a b;
  node = λ i. ap (λ l. node_of l i) (c.contents ∙ p.contents);
  is_there = λ q x a h. ⊎_elim (λ before. inl before) (λ now. by_name q x a h now (bytes_eq q to) refl)
      (is_at_pushed old new c.change more (c.stored_changes ∙ p.stored_changes) q x h);
  holds = holds_same old new (c.contents ∙ p.contents) (omega (arith, c.stored_contents, p.stored_contents));
  made = c.made ∙ p.made;
}
  where
    more : new.changes.items ≡ old.changes.items ++ c.change ∷ []
    more = c.changes ∙ ap (λ l. l ++ c.change ∷ []) p.changes

    moved : (q : Name) → q ≡ to → changed c.change q (entry_of old.changes.items q) ≡ entry_of old.changes.items from
    moved q is = changed_name c.change q _ (c.named ∙ sym is) ∙ c.inode_is ∙ was ∙ ap (λ l. entry_of l from) p.changes

    kept : (q : Name) → q ≢ from → q ≢ to → changed c.change q (entry_of old.changes.items q) ≡ entry_of old.changes.items q
    kept q a b = changed_other c.change q _ (λ is. b (sym is ∙ c.named)) (λ is. a (sym is ∙ c.frees))

    by_name : (q : Name) (x : Option ℕ) → q ≢ from → (state_of new).is_there q x → x ≡ changed c.change q (entry_of old.changes.items q) → (r : Bool) → bytes_eq q to ≡ r
        → (state_of old).is_there q x ⊎ ((q ≡ to) × (x ≡ entry_of old.changes.items from))
    by_name q x a h now true e = let is : q ≡ to = grind (arith, bytes_eq-Decides q to, e) in inr (is, now ∙ moved q is)
    by_name q x a h now false e = inl (is_at_other old new c.change well more (c.stored_changes ∙ p.stored_changes) q x (kept q a (λ is. grind (arith, bytes_eq-Decides q to, e, is))) h)

-- ---- a file is written and stored

pub given : (old new : Logs) (i : ℕ) (node : Node) → IsWell old → ContentAdded old new i node → i ≡ old.made → WriteChanges (state_of old) (state_of new)
given old new i node well g is = record {
  entry = λ q. ap (λ l. entry_of l q) g.changes;
  node = λ j other. ap (λ l. node_of l j) g.contents ∙ node_other old g.content j (λ e. other (e ∙ g.inode_is ∙ is));
  is_there = is_at_same old new g.changes (omega (arith, g.stored_changes));
  holds = λ j n other h. holds_pushed old new g.content g.contents g.stored_contents well j n (λ e. other (e ∙ g.inode_is ∙ is)) h;
  made = g.made;
}

stays_written : (old mid new : Logs) → Stays (state_of old) (state_of mid) → WriteChanges (state_of mid) (state_of new) → WriteChanges (state_of old) (state_of new)
stays_written old mid new s w = record {
  entry = λ q. w.entry q ∙ s.entry q;
  node = λ j other. w.node j (λ e. other (e ∙ s.made)) ∙ s.node j;
  is_there = λ q o h. s.is_there q o (w.is_there q o h);
  holds = λ j n other h. s.holds j n (w.holds j n (λ e. other (e ∙ s.made)) h);
  made = w.made ∙ s.made;
}

written_twice : (old mid new : Logs) → WriteChanges (state_of old) (state_of mid) → WriteChanges (state_of mid) (state_of new) → WriteChanges (state_of old) (state_of new)
written_twice old mid new s w = record {
  entry = λ q. w.entry q ∙ s.entry q;
  node = λ j other. w.node j (λ e. other (e ∙ s.made)) ∙ s.node j other;
  is_there = λ q o h. s.is_there q o (w.is_there q o h);
  holds = λ j n other h. s.holds j n other (w.holds j n (λ e. other (e ∙ s.made)) h);
  made = w.made ∙ s.made;
}

grown_trans : (old mid new : Logs) → Grown old mid → Grown mid new → length old.changes.items ≤ length mid.changes.items → length old.contents.items ≤ length mid.contents.items → Grown old new
grown_trans old mid new a b changes contents = record {
  changes = λ k le. b.changes k (omega (arith, le, changes)) ∙ a.changes k le;
  contents = λ k le. b.contents k (omega (arith, le, contents)) ∙ a.contents k le;
}

module _ (old mid half : Logs) (i : ℕ) (node : Node) (well : IsWell old) (p : MomentPasses old mid) (g : ContentAdded mid half i node) where
  more : half.contents.items ≡ old.contents.items ++ g.content ∷ []
  more = g.contents ∙ ap (λ l. l ++ g.content ∷ []) p.contents

  half_grown : Grown old half
  half_grown = grown_content old half g.content (g.changes ∙ p.changes) more

  pub well_half : IsWell half
  well_half = well_gives mid half i node (well_passes old mid well p) g

  half_written : i ≡ mid.made → WriteChanges (state_of old) (state_of half)
  half_written is = stays_written old mid half (stays_passes old mid p) (given mid half i node (well_passes old mid well p) g is)

  -- the second step fails
  pub time_half : (new : Logs) → CallFails half new → TimePasses (state_of old) (state_of new)
  time_half new f = time_by old new well
      (grown_content old new g.content (f.changes ∙ g.changes ∙ p.changes) (f.contents ∙ more))
      (f.moments ∙ g.moments ∙ p.moments) (omega (arith, p.next, g.next, f.next)) (omega (arith, p.failures, g.failures, f.failures)) (omega (arith, p.failures, p.uncounted, g.failures, g.uncounted, f.uncounted))

  pub written_half : (new : Logs) → i ≡ mid.made → CallFails half new → WriteChanges (state_of old) (state_of new)
  written_half new is f = written_stays (half_written is) (stays_fails half new f)
    where
      written_stays : WriteChanges (state_of old) (state_of half) → Stays (state_of half) (state_of new) → WriteChanges (state_of old) (state_of new)
      written_stays w s = record {
        entry = λ q. s.entry q ∙ w.entry q;
        node = λ j other. s.node j ∙ w.node j other;
        is_there = λ q o h. w.is_there q o (s.is_there q o h);
        holds = λ j n other h. w.holds j n other (s.holds j n h);
        made = s.made ∙ w.made;
      }

  -- the second step succeeds
  module _ (new : Logs) (whole : Node) (w : ContentAdded half new i whole) where
    pub time_written : TimePasses (state_of old) (state_of new)
    time_written = time_by old new well
        (grown_trans old half new half_grown (grown_content half new w.content w.changes w.contents) (omega (arith, ap length g.changes, ap length p.changes))
        (omega (arith, ap length more, length-append old.contents.items (g.content ∷ []))))
        (w.moments ∙ g.moments ∙ p.moments) (omega (arith, p.next, g.next, w.next)) (omega (arith, p.failures, g.failures, w.failures)) (omega (arith, p.failures, p.uncounted, g.failures, g.uncounted, w.failures, w.uncounted))

    pub well_written : IsWell new
    well_written = well_gives half new i whole well_half w

    pub written : i ≡ mid.made → WriteChanges (state_of old) (state_of new)
    written is = written_twice old half new (half_written is) (given half new i whole well_half w (is ∙ sym g.made))

    pub holds_whole : i ≡ old.made → node_of new.contents.items old.made ≡ whole
    holds_whole is = ap (node_of new.contents.items) (sym is ∙ sym w.inode_is)
        ∙ ap (λ l. node_of l w.content.inode) w.contents ∙ node_given half w.content ∙ w.has

-- after a store, only what was stored may be found
pub time_stores : (old mid new : Logs) → IsWell old → MomentPasses old mid → new.changes.items ≡ mid.changes.items → new.contents.items ≡ mid.contents.items → new.moments.items ≡ mid.moments.items
    → new.next ≡ mid.next → new.failures ≡ mid.failures → new.uncounted ≡ mid.uncounted → TimePasses (state_of old) (state_of new)
time_stores old mid new well p a b moments next failures uncounted = time_by old new well (grown_same old new (a ∙ p.changes) (b ∙ p.contents)) (moments ∙ p.moments) (omega (arith, next, p.next))
    (omega (arith, p.failures, failures)) (omega (arith, p.failures, p.uncounted, failures, uncounted))

-- one of two facts holds, depending on the result of a call
pub either : {T E : Type 0} {W P Q : Type 0} (r : Result T E) → OnOk r P → OnErr r Q → (P → W) → (Q → W) → W
either (Ok x) p q a b = a p
either (Err x) p q a b = b q

pub no_inode : (o : Option ℕ) (r : Bool) → r ≡ is_some o → r ≡ false → o ≡ None
no_inode None r is fails = refl
no_inode (Some i) r is fails = grind (arith, is, fails)
