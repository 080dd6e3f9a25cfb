-- Handles looked up among declarations after one more.
use Rattle.std.proofs.Common.{◌≡◌, ℕ, ◌+◌, ◌<◌, Bool, true, false, cond, List, [], ◌∷◌, ◌++◌, length, map, Option, Some, None, refl, sym, ap, ◌∙◌, subst, arith, true≢false, is_none, is_some, not, if◌then◌else◌}
use Rattle.std.specs.Option.{unwrap_or}
use Rattle.std.proofs.lemmas.List.{length-map}
use Rattle.std.proofs.lemmas.Map.Text.{is_eq-slice_cmp}
use Rattle.std.specs.Borrow.{Bor}
use Rattle.std.specs.BTreeMap.{is_at}
use Rattle.std.specs.Cmp.Lexicographic.{slice_cmp}
use Rattle.std.specs.Map.{lookup}
use Rattle.std.specs.Ordering.{nat_cmp}
use Rattle.std.specs.Str.{bytes_eq}
use Rattle.yf_chars.proofs.Tests.{none_there}
use Rattle.yf_props.specs.Handles.{Declaration, TagText, declaration, declared_prefix, default_prefix, is_declared, or_else, prefix_of, UnknownHandleOf, no_prefix, non_specific_text, shorthand_text, verbatim_text}
use Rattle.yf_props.specs.Props.{TagValue, name_value, tag_value}
use Rattle.yf_props.specs.declared.props.Tag.{Tag}
use Rattle.yf_props.specs.declared.props.Tag.TheVariants.{NonSpecific, Short, Verbatim}
use Rattle.yf_props.specs.Props.TagValue.{IsShort}
use Rattle.yf_props.proofs.HandleLemmas.{lookup_declaration}
use Rattle.yf_stream.specs.FewHandles.{FewOf}
use Rattle.yf_stream.specs.TagPass.{SameDeclarations}
use Rattle.yf_stream.specs.WellFormed.{is_unknown, offset_or, with_declaration}
use Rattle.yf_stream.proofs.TagPass.NameSets.{bytes_itself, bytes_turned, same_bytes}

-- one more declaration is found, and the others as before
pub record Declares (a b : List Declaration) (handle prefix : List ℕ) : Type 0 where
  pub found : (h : List ℕ) → declared_prefix b h ≡ cond (bytes_eq handle h) (Some prefix) (declared_prefix a h)

abbrev Entries : Type 0
Entries = List (Bor (List ℕ) × Bor (List ℕ))

-- the look-up of a handle in a `BTreeMap`
by_order : (es : Entries) (h : List ℕ) → lookup (is_at (λ (k : Bor (List ℕ)). slice_cmp nat_cmp h k.now)) es ≡ lookup (λ (k : Bor (List ℕ)). bytes_eq h k.now) es
by_order [] h = refl
by_order (e ∷ es) h =
    ap (λ z. cond z (Some e.1) (lookup (is_at (λ (k : Bor (List ℕ)). slice_cmp nat_cmp h k.now)) es)) (is_eq-slice_cmp h e.0.now)
    ∙ ap (λ z. cond (bytes_eq h e.0.now) (Some e.1) z) (by_order es h)

pub declared_by_order : (es : Entries) (h : List ℕ) → declared_prefix (map declaration es) h ≡ name_value (lookup (is_at (λ (k : Bor (List ℕ)). slice_cmp nat_cmp h k.now)) es)
declared_by_order es h = lookup_declaration es h ∙ ap name_value (sym (by_order es h))

some_name : (q : Option (Bor (List ℕ))) → is_some (name_value q) ≡ is_some q
some_name None = refl
some_name (Some x) = refl

pub is_declared_by_order : (es : Entries) (h : List ℕ) → is_declared (map declaration es) h ≡ is_some (lookup (is_at (λ (k : Bor (List ℕ)). slice_cmp nat_cmp h k.now)) es)
is_declared_by_order es h = ap is_some (declared_by_order es h) ∙ some_name (lookup (is_at (λ (k : Bor (List ℕ)). slice_cmp nat_cmp h k.now)) es)

name_of_cond : (b : Bool) (x : Bor (List ℕ)) (q : Option (Bor (List ℕ))) → name_value (cond b (Some x) q) ≡ cond b (Some x.now) (name_value q)
name_of_cond true x q = refl
name_of_cond false x q = refl

-- after a call that changes one key of the map
pub declares_by_order : (a b : Entries) (k v : Bor (List ℕ))
    → ((h : List ℕ) → lookup (is_at (λ (k : Bor (List ℕ)). slice_cmp nat_cmp h k.now)) b
    ≡ cond (bytes_eq k.now h) (Some v) (lookup (is_at (λ (k : Bor (List ℕ)). slice_cmp nat_cmp h k.now)) a))
    → Declares (map declaration a) (map declaration b) k.now v.now
declares_by_order a b k v f = record {
  found = λ h.
      declared_by_order b h ∙ ap name_value (f h)
      ∙ name_of_cond (bytes_eq k.now h) v (lookup (is_at (λ (k : Bor (List ℕ)). slice_cmp nat_cmp h k.now)) a)
      ∙ ap (λ z. cond (bytes_eq k.now h) (Some v.now) z) (sym (declared_by_order a h));
}

pub not_declared : (ds : List Declaration) (h : List ℕ) → is_declared ds h ≡ false → declared_prefix ds h ≡ None
not_declared ds h e = none_there (declared_prefix ds h) e

-- one more element at the end of a list
last_found : (ds : List Declaration) (k v h : List ℕ) → declared_prefix (ds ++ (k, v) ∷ []) h ≡ or_else (declared_prefix ds h) (cond (bytes_eq h k) (Some v) None)
last_found [] k v h = refl
last_found (d ∷ ds) k v h = go (bytes_eq h d.0) (last_found ds k v h) where
  go : (b : Bool) → declared_prefix (ds ++ (k, v) ∷ []) h ≡ or_else (declared_prefix ds h) (cond (bytes_eq h k) (Some v) None)
      → cond b (Some d.1) (declared_prefix (ds ++ (k, v) ∷ []) h) ≡ or_else (cond b (Some d.1) (declared_prefix ds h)) (cond (bytes_eq h k) (Some v) None)
  go true e = refl
  go false e = e

pub declares_last : (ds : List Declaration) (k v : List ℕ) → declared_prefix ds k ≡ None → Declares ds (ds ++ (k, v) ∷ []) k v
declares_last ds k v n = record { found = λ h. last_found ds k v h ∙ go h (bytes_eq k h) refl (declared_prefix ds h) refl } where
  go : (h : List ℕ) (b : Bool) → bytes_eq k h ≡ b → (q : Option (List ℕ)) → declared_prefix ds h ≡ q → or_else q (cond (bytes_eq h k) (Some v) None) ≡ cond b (Some v) q
  go h true e None f = ap (λ z. cond z (Some v) None) (bytes_turned h k ∙ e)
  go h true e (Some x) f =
      let p : None ≡ Some x = sym n ∙ ap (declared_prefix ds) (same_bytes k h e) ∙ f in
      absurd (true≢false (sym (ap is_some p)))
  go h false e None f = ap (λ z. cond z (Some v) None) (bytes_turned h k ∙ e)
  go h false e (Some x) f = refl

pub same_declared : {a b c d : List Declaration} {k v : List ℕ} → Declares a b k v → Declares c d k v → SameDeclarations a c → SameDeclarations b d
same_declared {k = k} {v} p q s = record { each = λ h. p.found h ∙ ap (λ z. cond (bytes_eq k h) (Some v) z) (s.each h) ∙ sym (q.found h) }

-- a declaration of a handle that was not declared
pub with_new : (ds : List Declaration) (k v : List ℕ) → is_declared ds k ≡ false → with_declaration ds (Some (k, v)) ≡ ds ++ (k, v) ∷ []
with_new ds k v e = simp e

pub with_old : (ds : List Declaration) (k v : List ℕ) → is_declared ds k ≡ true → with_declaration ds (Some (k, v)) ≡ ds
with_old ds k v e = simp e

-- the few handles that are looked up by their hashes
kept_none : (b : Bool) (v : List ℕ) (q : Option (List ℕ)) → cond b (Some v) q ≡ None → q ≡ None
kept_none true v q e = absurd (true≢false (ap is_some e))
kept_none false v q e = e

pub few_more : {few all more : List Declaration} {k v : List ℕ} → FewOf few all → Declares all more k v → length more ≡ length all + 1
    → declared_prefix all k ≡ None → FewOf (few ++ (k, v) ∷ []) more
few_more {few} {all} {more} {k} {v} f d l n =
    let c = declares_last few k v (f.others k n) in
    record {
      same = λ w h. let r = same_declared c d (record { each = f.same (omega arith) }) in r.each h;
      others = λ h e.
          let old = kept_none (bytes_eq k h) v (declared_prefix all h) (sym (d.found h) ∙ e) in
          c.found h ∙ ap (λ z. cond (bytes_eq k h) (Some v) z) (f.others h old ∙ sym old) ∙ sym (d.found h) ∙ e;
    }

pub few_kept : {few all more : List Declaration} {k v : List ℕ} → FewOf few all → Declares all more k v → 64 < length more → FewOf few more
few_kept {all = all} {k = k} {v = v} f d l =
    record { same = λ w h. absurd (omega arith); others = λ h e. f.others h (kept_none (bytes_eq k h) v (declared_prefix all h) (sym (d.found h) ∙ e)) }

pub few_same : {few all others : List Declaration} → FewOf few all → SameDeclarations others all → length others ≡ length all → FewOf few others
few_same f s l = record { same = λ w h. f.same (omega arith) h ∙ sym (s.each h); others = λ h e. f.others h (sym (s.each h) ∙ e) }

pub same_itself : (ds : List Declaration) → SameDeclarations ds ds
same_itself ds = record { each = λ h. refl }

-- after a new declaration
pub newly_declared : {a b ds : List Declaration} {k v : List ℕ} → a ≡ ds → Declares a b k v → declared_prefix a k ≡ None
    → SameDeclarations b (with_declaration ds (Some (k, v)))
newly_declared {a} {b} {k = k} {v} e d n =
    subst (λ z. SameDeclarations b (with_declaration z (Some (k, v)))) e
    (subst (λ z. SameDeclarations b z) (sym (with_new a k v (ap is_some n))) (same_declared d (declares_last a k v n) (same_itself a)))

pub few_declared : (few : List Declaration) {new : List Declaration} (k v : List ℕ) {fresh : Bool} → declared_prefix few k ≡ None
    → (fresh ≡ not (is_declared few k)) × (new ≡ (if fresh then few ++ (k, v) ∷ [] else few)) → new ≡ few ++ (k, v) ∷ []
few_declared few k v n p = p.1 ∙ ap (λ z. if z then few ++ (k, v) ∷ [] else few) (p.0 ∙ ap (λ z. not (is_some z)) n)

-- a declaration that is removed again
pub taken_out : (a b c : Entries) (k v : Bor (List ℕ)) → declared_prefix (map declaration a) k.now ≡ None
    → ((h : List ℕ) → lookup (is_at (λ (k : Bor (List ℕ)). slice_cmp nat_cmp h k.now)) b
    ≡ cond (bytes_eq k.now h) (Some v) (lookup (is_at (λ (k : Bor (List ℕ)). slice_cmp nat_cmp h k.now)) a))
    → ((h : List ℕ) → lookup (is_at (λ (k : Bor (List ℕ)). slice_cmp nat_cmp h k.now)) c
    ≡ cond (bytes_eq k.now h) None (lookup (is_at (λ (k : Bor (List ℕ)). slice_cmp nat_cmp h k.now)) b))
    → SameDeclarations (map declaration c) (map declaration a)
taken_out a b c k v n f g = record { each = λ h. declared_by_order c h ∙ ap name_value (g h) ∙ go h (bytes_eq k.now h) refl } where
  go : (h : List ℕ) (t : Bool) → bytes_eq k.now h ≡ t
      → name_value (cond (bytes_eq k.now h) None (lookup (is_at (λ (k : Bor (List ℕ)). slice_cmp nat_cmp h k.now)) b)) ≡ declared_prefix (map declaration a) h
  go h true e =
      ap (λ z. name_value (cond z None (lookup (is_at (λ (k : Bor (List ℕ)). slice_cmp nat_cmp h k.now)) b))) e
      ∙ sym (ap (declared_prefix (map declaration a)) (sym (same_bytes k.now h e)) ∙ n)
  go h false e =
      ap (λ z. name_value (cond z None (lookup (is_at (λ (k : Bor (List ℕ)). slice_cmp nat_cmp h k.now)) b))) e
      ∙ ap name_value (f h)
      ∙ ap (λ z. name_value (cond z (Some v) (lookup (is_at (λ (k : Bor (List ℕ)). slice_cmp nat_cmp h k.now)) a))) e
      ∙ sym (declared_by_order a h)

-- The texts of tags.

pub text_by_prefix : {a b : List Declaration} {tag : TagValue} {h s x : List ℕ} → tag ≡ IsShort h s → prefix_of a h ≡ prefix_of b h → TagText a tag x → TagText b tag x
text_by_prefix {a} {b} {h = h} {s = s} {x = x} e p t = subst (λ z. TagText b z x) (sym e) (go (subst (λ z. TagText a z x) e t)) where
  go : {x : List ℕ} → TagText a (IsShort h s) x → TagText b (IsShort h s) x
  go (shorthand_text f d) = shorthand_text (sym p ∙ f) d

pub unknown_by_prefix : {a b : List Declaration} {tag : TagValue} {h s : List ℕ} → tag ≡ IsShort h s → prefix_of a h ≡ prefix_of b h → UnknownHandleOf a tag → UnknownHandleOf b tag
unknown_by_prefix {a} {b} {h = h} {s = s} e p t = subst (λ z. UnknownHandleOf b z) (sym e) (go (subst (λ z. UnknownHandleOf a z) e t)) where
  go : UnknownHandleOf a (IsShort h s) → UnknownHandleOf b (IsShort h s)
  go (no_prefix f) = no_prefix (sym p ∙ f)

pub prefix_alone : (h v : List ℕ) (ds : List Declaration) → declared_prefix ds h ≡ Some v → prefix_of ((h, v) ∷ []) h ≡ prefix_of ds h
prefix_alone h v ds e = ap (λ z. or_else (cond z (Some v) None) (default_prefix h)) (bytes_itself h) ∙ ap (λ z. or_else z (default_prefix h)) (sym e)

pub prefix_by_declared : (a b : List Declaration) (h : List ℕ) → declared_prefix a h ≡ declared_prefix b h → prefix_of a h ≡ prefix_of b h
prefix_by_declared a b h e = ap (λ z. or_else z (default_prefix h)) e

pub known_by_text : {ds : List Declaration} {tag : TagValue} {x : List ℕ} → TagText ds tag x → is_unknown ds (Some tag) ≡ false
known_by_text verbatim_text = refl
known_by_text (shorthand_text e d) = ap is_none e
known_by_text non_specific_text = refl

pub unknown_by_handle : {ds : List Declaration} {tag : TagValue} → UnknownHandleOf ds tag → is_unknown ds (Some tag) ≡ true
unknown_by_handle (no_prefix e) = ap is_none e

pub offset_there : (o : Option ℕ) → unwrap_or o 0 ≡ offset_or 0 o
offset_there None = refl
offset_there (Some i) = refl

-- declarations don't change a tag without a handle
pub other_text : {a b : List Declaration} {x : List ℕ} (tag : Tag) → ((h s : Bor (List ℕ)) → tag ≡ Short h s → ⊥) → TagText a (tag_value tag) x → TagText b (tag_value tag) x
other_text (Verbatim text) n verbatim_text = verbatim_text
other_text (Short h s) n t = absurd (n h s refl)
other_text NonSpecific n non_specific_text = non_specific_text

pub other_known : {a : List Declaration} {A : Type 0} (tag : Tag) → ((h s : Bor (List ℕ)) → tag ≡ Short h s → ⊥) → UnknownHandleOf a (tag_value tag) → A
other_known (Verbatim text) n u = elim u [ ]
other_known (Short h s) n u = absurd (n h s refl)
other_known NonSpecific n u = elim u [ ]

-- the number of entries of a map after one more is added, and after it is removed again
pub counted_more : (a b : Entries) (q : Option (Bor (List ℕ))) → length b ≡ length a + (if is_some q then 0 else 1) → is_some q ≡ false
    → length (map declaration b) ≡ length (map declaration a) + 1
counted_more a b q e n =
    let one : length b ≡ length a + 1 = e ∙ ap (λ z. length a + (if z then 0 else 1)) n in omega (arith, length-map a declaration, length-map b declaration)

pub counted_less : (a b c : Entries) (q r : Option (Bor (List ℕ))) → length b ≡ length a + (if is_some q then 0 else 1) → is_some q ≡ false
    → length c + (if is_some r then 1 else 0) ≡ length b → is_some r ≡ true → length (map declaration c) ≡ length (map declaration a)
counted_less a b c q r e n f m =
    let one : length b ≡ length a + 1 = e ∙ ap (λ z. length a + (if z then 0 else 1)) n in
    let two : length c + 1 ≡ length b = ap (λ z. length c + (if z then 1 else 0)) (sym m) ∙ f in
    omega (arith, length-map a declaration, length-map c declaration)

pub found_again : (a b : Entries) (k v : Bor (List ℕ)) → ((h : List ℕ) → lookup (is_at (λ (k : Bor (List ℕ)). slice_cmp nat_cmp h k.now)) b
    ≡ cond (bytes_eq k.now h) (Some v) (lookup (is_at (λ (k : Bor (List ℕ)). slice_cmp nat_cmp h k.now)) a))
    → is_some (lookup (is_at (λ (x : Bor (List ℕ)). slice_cmp nat_cmp k.now x.now)) b) ≡ true
found_again a b k v f =
    ap is_some (f k.now) ∙ ap (λ z. is_some (cond z (Some v) (lookup (is_at (λ (x : Bor (List ℕ)). slice_cmp nat_cmp k.now x.now)) a))) (bytes_itself k.now)
