-- Each text has its lines.
use Rattle.std.proofs.Common.{◌≡◌, ◌≢◌, ℕ, zero, suc, ◌+◌, ◌-◌, ◌<◌, ◌≤◌, true, false, ◌⊎◌, inl, inr, ⊎_elim, List, [], ◌∷◌, length, sym, ap, ◌∙◌, subst, arith, true≢false}
use Rattle.std.proofs.lemmas.Bool.{cases_Bool, cases_eq}
use Rattle.yf_chars.specs.Class.{is_break_char}
use Rattle.yf_chars.specs.Text.{code}
use Rattle.yf_chars.specs.Chain.{Chain}
use Rattle.yf_chars.specs.Chain.Chain.{done, step}
use Rattle.yf_chars.proofs.TextLemmas.{code-past, within_from_code}
use Rattle.yf_lines.specs.Basic.{Break, Spaces}
use Rattle.yf_lines.specs.Basic.Break.{cr_lf, lone_cr, lone_lf}
use Rattle.yf_lines.specs.Lines.{Apart, AreLines, OneLine, NoBreakIn}
use Rattle.yf_lines.specs.declared.line.Line.{Line}
use Rattle.yf_lines.proofs.BasicLemmas.{break_forward}
use Rattle.yf_lines.proofs.LineLemmas.{apart_after_break, apart_at_end, apart_at_start, break_char_cases, break_within, cr_breaks, line_by, line_to_break, line_to_end, unbroken_more, unbroken_nothing, unbroken_spaces}

-- all spaces from an offset on
record SpacesFrom (t : List ℕ) (i : ℕ) : Type 0 where
  end : ℕ
  order : i ≤ end
  within : end ≤ length t
  spaces : Spaces t i (end - i)
  stops : code t end ≢ 32

-- the characters of a line up to its end
record LineFrom (t : List ℕ) (i : ℕ) : Type 0 where
  line : Line
  next : ℕ
  one : OneLine t i next (line ∷ [])
  later : i < next
  within : next ≤ length t
  apart : Apart t next

module _ (t : List ℕ) where
  no_spaces : (i : ℕ) → Spaces t i (i - i)
  no_spaces i = record { each = λ m l. absurd (omega arith) }

  more_spaces : (i h : ℕ) → i ≤ h → Spaces t i (h - i) → code t h ≡ 32 → Spaces t i (h + 1 - i)
  more_spaces i h o s e = record {
    each = λ m l.
        ⊎_elim (λ (q : m ≡ h - i). let p : i + m ≡ h = omega arith in ap (code t) p ∙ e)
        (λ (q : m ≢ h - i). s.each m (omega arith)) (cases_eq m (h - i));
  }

  spaces_upto : (n i h : ℕ) → length t ≤ h + n → h ≤ length t → i ≤ h → Spaces t i (h - i) → SpacesFrom t i
  spaces_upto zero i h l w o s =
      record { end = h; order = o; within = w; spaces = s; stops = λ e. let c = code-past t h (omega arith) in absurd (omega arith) }
  spaces_upto (suc n) i h l w o s =
      ⊎_elim
      (λ (e : code t h ≡ 32).
      let b = within_from_code t h (omega arith) in spaces_upto n i (h + 1) (omega arith) (omega arith) (omega arith) (more_spaces i h o s e))
      (λ (e : code t h ≢ 32). record { end = h; order = o; within = w; spaces = s; stops = e })
      (cases_eq (code t h) 32)

  break_upto : (n h m : ℕ) → length t ≤ m + n → m ≤ length t → NoBreakIn t h m
      → (e : ℕ) × NoBreakIn t h e × ((is_break_char (code t e) ≡ true) ⊎ (e ≡ length t))
  break_upto zero h m l w u = (m, u, inr (omega arith))
  break_upto (suc n) h m l w u =
      ⊎_elim (λ (b : is_break_char (code t m) ≡ true). (m, u, inl b))
      (λ (b : is_break_char (code t m) ≡ false).
      ⊎_elim (λ (e : m ≡ length t). (m, u, inr e))
      (λ (e : m ≢ length t). break_upto n h (m + 1) (omega arith) (omega arith) (unbroken_more u b)) (cases_eq m (length t)))
      (cases_Bool (is_break_char (code t m)))

  no_cr_before : (i h : ℕ) → Apart t i → NoBreakIn t i h → code t h ≡ 10 → code t (h - 1) ≢ 13
  no_cr_before i h a n e p =
      ⊎_elim (λ (q : h ≡ i). a.no_cr (ap (code t) (sym q) ∙ e) (ap (λ w. code t (w - 1)) (sym q) ∙ p))
      (λ (q : h ≢ i). let o = n.order in true≢false (sym (cr_breaks t (h - 1) p) ∙ n.none (h - 1) (omega arith) (omega arith)))
      (cases_eq h i)

  break_there : (i h : ℕ) → Apart t i → NoBreakIn t i h → is_break_char (code t h) ≡ true → (j : ℕ) × Break t h j
  break_there i h a n b =
      ⊎_elim
      (λ (e : code t h ≡ 13).
      ⊎_elim (λ (l : code t (h + 1) ≡ 10). (h + 2, cr_lf e l)) (λ (l : code t (h + 1) ≢ 10). (h + 1, lone_cr e l)) (cases_eq (code t (h + 1)) 10))
      (λ (e : code t h ≡ 10). (h + 1, lone_lf e (no_cr_before i h a n e)))
      (break_char_cases (code t h) b)

  line_from : (i : ℕ) → i < length t → Apart t i → LineFrom t i
  line_from i l a = with_end (break_upto (length t) s.end s.end (omega arith) s.within (unbroken_nothing t s.end)) where
    s : SpacesFrom t i
    s = spaces_upto (length t) i i (omega arith) (omega arith) (omega arith) (no_spaces i)

    with_end : (e : ℕ) × NoBreakIn t s.end e × ((is_break_char (code t e) ≡ true) ⊎ (e ≡ length t)) → LineFrom t i
    with_end (e, u, inl b) =
        let whole = unbroken_spaces t i s.end e s.order s.spaces u in
        let k = break_there i e a whole b in
        let f = break_forward k.1 in
        let o = whole.order in
        record {
          line = line_by i e k.0 (s.end - i);
          next = k.0;
          one = line_to_break t i s.end e l s.order s.spaces s.stops u k.0 k.1;
          later = omega arith;
          within = break_within k.1;
          apart = apart_after_break k.1;
        }
    with_end (e, u, inr q) = record {
      line = line_by i e e (s.end - i);
      next = e;
      one = line_to_end t i s.end e l s.order s.spaces s.stops u q;
      later = omega arith;
      within = omega arith;
      apart = apart_at_end t e q;
    }

  lines_from : (n i : ℕ) → length t ≤ i + n → i ≤ length t → Apart t i → (ls : List Line) × Chain (OneLine t) i (length t) ls
  lines_from zero i l w a = let e : i ≡ length t = omega arith in ([], subst (λ k. Chain (OneLine t) i k []) e (done {i = i}))
  lines_from (suc n) i l w a =
      ⊎_elim (λ (e : i ≡ length t). ([], subst (λ k. Chain (OneLine t) i k []) e (done {i = i})))
      (λ (e : i ≢ length t).
      let f = line_from i (omega arith) a in
      let o = f.later in
      let m = lines_from n f.next (omega arith) f.within f.apart in
      (f.line ∷ m.0, step f.one m.1))
      (cases_eq i (length t))

  pub lines_exist : (ls : List Line) × AreLines t ls
  lines_exist = lines_from (length t) 0 (omega arith) (omega arith) (apart_at_start t)
