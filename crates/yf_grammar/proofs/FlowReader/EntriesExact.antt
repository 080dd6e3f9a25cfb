-- Entries of a flow collection: if the reader finds each entry, it goes on from one to the next as they are derived.
use Rattle.std.proofs.Common.{◌≡◌, ℕ, ℤ, max, ◌+◌, Bool, true, false, List, ◌++◌, Option, Some, None, refl, sym, ap, ◌∙◌, subst, arith, append_assoc}
use Rattle.std.proofs.lemmas.Option.{same_Some}
use Rattle.yf_chars.specs.declared.context.Ctx.{Ctx}
use Rattle.yf_chars.specs.Text.{code}
use Rattle.yf_chars.proofs.Tests.{none_some}
use Rattle.yf_comments.specs.Comment.{CommentValue}
use Rattle.yf_grammar.specs.Productions.Meaning.{Meaning, ◌⊕◌, noting}
use Rattle.yf_grammar.specs.Productions.Grammar.{MaySeparate, closing}
use Rattle.yf_grammar.specs.FlowReader.Parser.{ParsedNode, found, TheEntries, AnEntry, Parses, Gap, joined}
use Rattle.yf_grammar.specs.FlowReader.Parser.Parses.{entries_end, entry_missed, entry_last, entry_then, entry_then_missed, entry_unclosed}
use Rattle.yf_grammar.proofs.Ends.GapLemmas.{Visible, gap_is}
use Rattle.yf_grammar.proofs.FlowReader.ContentExact.{EntriesFound, EntryFound}

closing_not : (s : Bool) → closing s ≡ 44 → ⊥
closing_not true e = omega arith
closing_not false e = omega arith

-- the last entry
last_found : (j h : ℕ) (y : Meaning) (f : ParsedNode) (k : ℕ) (cs : List CommentValue) → f.height ≡ h → k ≡ j → noting f.meaning cs ≡ y
    → EntriesFound (found k f.height true (noting f.meaning cs)) j h y
unfolding found
last_found j h y f k cs a b c = record {
  answer = record { end = k; height = f.height; json = true; meaning = noting f.meaning cs };
  is = refl;
  end = b;
  height = a;
  events = ap (λ (w : Meaning). w.events) c;
  comments = ap (λ (w : Meaning). w.comments) c;
  escapes = ap (λ (w : Meaning). w.escapes) c;
}

-- an entry before others
joined_found : (j h g : ℕ) (y z : Meaning) (f r : ParsedNode) (cs ds : List CommentValue) → f.height ≡ h → r.height ≡ g → r.end ≡ j → noting f.meaning cs ≡ y
    → r.meaning.events ≡ z.events → r.meaning.comments ≡ z.comments → r.meaning.escapes ≡ z.escapes
    → EntriesFound (joined f (cs ++ ds) r) j (max h g) (noting y ds ⊕ z)
unfolding found joined noting ◌⊕◌
joined_found j h g y z f r cs ds a b c d e1 e2 e3 = record {
  answer = record { end = r.end; height = max f.height r.height; json = true; meaning = noting f.meaning (cs ++ ds) ⊕ r.meaning };
  is = refl;
  end = c;
  height = ap (λ w. max w r.height) a ∙ ap (λ w. max h w) b;
  events = ap (λ w. f.meaning.events ++ w) e1 ∙ ap (λ (w : Meaning). w.events ++ z.events) d;
  comments = ap (λ w. w ++ r.meaning.comments) (sym (append_assoc f.meaning.comments cs ds)) ∙ ap (λ (w : Meaning). (w.comments ++ ds) ++ r.meaning.comments) d
      ∙ ap (λ w. (y.comments ++ ds) ++ w) e2;
  escapes = ap (λ w. f.meaning.escapes ++ w) e3 ∙ ap (λ (w : Meaning). w.escapes ++ z.escapes) d;
}

module _ {t : List ℕ} {n : ℤ} {c : Ctx} where
  -- the reader's first entry is the derived one, with the comments after it
  pub last_exact : {e i j h : ℕ} {s : Bool} {y : Meaning} {o : Option ParsedNode} → (code t i ≡ closing s → ⊥) → code t j ≡ closing s
      → ((r : Option ParsedNode) → Parses t e (AnEntry s n c i) r → EntryFound t n c r j h y) → Parses t e (TheEntries s n c i) o → EntriesFound o j h y
  last_exact a b f (entries_end q) = absurd (a q)
  last_exact a b f (entry_missed m d) = absurd (none_some (f None d).is)
  last_exact {j = j} {h = h} {y = y} a b f (entry_last {k = k} {cs = cs} {f = r} m d g q) =
      let w = f (Some r) d in
      let e : w.answer ≡ r = sym (same_Some _ _ w.is) in
      let p = w.rest k cs (subst (λ (v : ParsedNode). Gap t n c v.end k cs) (sym e) g) in
      last_found j h y r k cs (ap (λ (v : ParsedNode). v.height) (sym e) ∙ w.height) p.0 (ap (λ (v : ParsedNode). noting v.meaning cs) (sym e) ∙ p.1)
  last_exact {s = s} a b f (entry_then {k = k} {cs = cs} {f = r} m d g q o z) =
      let w = f (Some r) d in
      let e : w.answer ≡ r = sym (same_Some _ _ w.is) in
      let p = w.rest k cs (subst (λ (v : ParsedNode). Gap t n c v.end k cs) (sym e) g) in
      absurd (closing_not s (sym b ∙ ap (code t) (sym p.0) ∙ q))
  last_exact {s = s} a b f (entry_then_missed {k = k} cs ds {f = r} m d g q o z) =
      let w = f (Some r) d in
      let e : w.answer ≡ r = sym (same_Some _ _ w.is) in
      let p = w.rest k cs (subst (λ (v : ParsedNode). Gap t n c v.end k cs) (sym e) g) in
      absurd (closing_not s (sym b ∙ ap (code t) (sym p.0) ∙ q))
  last_exact a b f (entry_unclosed {k = k} cs {f = r} m d g q o) =
      let w = f (Some r) d in
      let e : w.answer ≡ r = sym (same_Some _ _ w.is) in
      let p = w.rest k cs (subst (λ (v : ParsedNode). Gap t n c v.end k cs) (sym e) g) in
      absurd (q (ap (code t) p.0 ∙ b))

  -- an entry, a comma at l, and further entries from m on, or the closing bracket
  pub more_exact : {e i j l m h g : ℕ} {s : Bool} {y z : Meaning} {ds : List CommentValue} {o : Option ParsedNode} → (code t i ≡ closing s → ⊥) → code t l ≡ 44
      → MaySeparate t n c (l + 1) m ds → Visible t m
      → ((r : Option ParsedNode) → Parses t e (AnEntry s n c i) r → EntryFound t n c r l h y)
      → ((r : Option ParsedNode) → Parses t e (TheEntries s n c m) r → EntriesFound r j g z)
      → Parses t e (TheEntries s n c i) o → EntriesFound o j (max h g) (noting y ds ⊕ z)
  more_exact a b x v f k (entries_end q) = absurd (a q)
  more_exact a b x v f k (entry_missed m d) = absurd (none_some (f None d).is)
  more_exact {s = s} a b x v f k (entry_last {k = p} {cs = cs} {f = r} m d u q) =
      let w = f (Some r) d in
      let e : w.answer ≡ r = sym (same_Some _ _ w.is) in
      let same = w.rest p cs (subst (λ (v : ParsedNode). Gap t n c v.end p cs) (sym e) u) in
      absurd (closing_not s (sym q ∙ ap (code t) same.0 ∙ b))
  more_exact {e = d} {j = j} {l = l} {m = m} {h = h} {g = g} {s = s} {y = y} {z = z} {ds = ds} a b x v f k (entry_then {k = p} {m = q} {cs = cs} {ds = es} {f = r} {g = last} a' d' u c' o' z') =
      let w = f (Some r) d' in
      let e : w.answer ≡ r = sym (same_Some _ _ w.is) in
      let same = w.rest p cs (subst (λ (v : ParsedNode). Gap t n c v.end p cs) (sym e) u) in
      let next = gap_is v x (subst (λ v. Gap t n c (v + 1) q es) same.0 o') in
      let others = k (Some last) (subst (λ v. Parses t d (TheEntries s n c v) (Some last)) next.0 z') in
      let e' : others.answer ≡ last = sym (same_Some _ _ others.is) in
      subst (λ v. EntriesFound (joined r (cs ++ v) last) j (max h g) (noting y ds ⊕ z)) (sym next.1)
      (joined_found j h g y z r last cs ds (ap (λ (v : ParsedNode). v.height) (sym e) ∙ w.height) (ap (λ (v : ParsedNode). v.height) (sym e') ∙ others.height)
      (ap (λ (v : ParsedNode). v.end) (sym e') ∙ others.end) (ap (λ (v : ParsedNode). noting v.meaning cs) (sym e) ∙ same.1)
      (ap (λ (v : ParsedNode). v.meaning.events) (sym e') ∙ others.events) (ap (λ (v : ParsedNode). v.meaning.comments) (sym e') ∙ others.comments)
      (ap (λ (v : ParsedNode). v.meaning.escapes) (sym e') ∙ others.escapes))
  more_exact {e = d} {s = s} a b x v f k (entry_then_missed {k = p} {m = q} cs es {f = r} a' d' u c' o' z') =
      let w = f (Some r) d' in
      let e : w.answer ≡ r = sym (same_Some _ _ w.is) in
      let same = w.rest p cs (subst (λ (v : ParsedNode). Gap t n c v.end p cs) (sym e) u) in
      let next = gap_is v x (subst (λ v. Gap t n c (v + 1) q es) same.0 o') in
      absurd (none_some (k None (subst (λ v. Parses t d (TheEntries s n c v) None) next.0 z')).is)
  more_exact a b x v f k (entry_unclosed {k = p} cs {f = r} m d u q o) =
      let w = f (Some r) d in
      let e : w.answer ≡ r = sym (same_Some _ _ w.is) in
      let same = w.rest p cs (subst (λ (v : ParsedNode). Gap t n c v.end p cs) (sym e) u) in
      absurd (o (ap (code t) same.0 ∙ b))
