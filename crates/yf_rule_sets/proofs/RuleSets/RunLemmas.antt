-- Laws of runs of characters, and of the first character past the longest line that is allowed.
use Rattle.std.proofs.Common.{◌≡◌, ℕ, ◌+◌, ◌-◌, ◌<◌, ◌≤◌, Bool, List, Option, Some, None, length, sym, subst, ap, ◌∙◌, arith, length-append}
use Rattle.std.specs.Prelude.{slice_get}
use Rattle.std.proofs.lemmas.Option.{same_Some, slice_get_within}
use Rattle.yf_chars.specs.Chain.{Many, One}
use Rattle.yf_chars.specs.Chain.Chain.{done, step}
use Rattle.yf_chars.specs.Chain.One.{one}
use Rattle.yf_chars.proofs.ChainLemmas.{Meets, chain_meet, chain_forward, one_functional}
use Rattle.yf_chars.proofs.ChainLemmas.Meets.{goes_on, falls_short}
use Rattle.yf_chars.proofs.TextLemmas.{next_later}
use Rattle.yf_lines.proofs.MarkLemmas.{marks_unique}
use Rattle.yf_lines.specs.declared.line.Line.{Line}
use Rattle.yf_lines.specs.Lines.{Marks, Table, is_char, is_mark}
use Rattle.yf_rule_sets.specs.RuleSets.ByLine.{IsAfterChars, BeyondLimit}
use Rattle.yf_rule_sets.specs.RuleSets.ByLine.BeyondLimit.{beyond}
use Rattle.yf_rule_sets.specs.RuleSets.Exact.{Sole, IsTheOne}

-- an empty run ends at its start
no_length : {t : List ℕ} {p : ℕ → Bool} {i j : ℕ} {z : List ℕ} → Many t p i j z → length z ≡ 0 → j ≤ i
no_length done h = omega arith
no_length (step (one a) c) h = absurd (omega arith)

-- of two runs from one offset, the longer one ends no earlier
by_meeting : (t : List ℕ) (j k : ℕ) (x y : List ℕ) → Meets (One t is_char) j k x y → length x ≤ length y → j ≤ k
by_meeting t j k x y (goes_on z e q) l = chain_forward (one_functional t is_char) e
by_meeting t j k x y (falls_short z e q) l = no_length e (let n : length x ≡ length y + length z = ap length q ∙ length-append y z in omega (arith, n, l))

pub ends_later : (t : List ℕ) (i j k : ℕ) (x y : List ℕ) → Many t is_char i j x → Many t is_char i k y → length x ≤ length y → j ≤ k
ends_later t i j k x y c d l = by_meeting t j k x y (chain_meet (one_functional t is_char) c d) l

-- at the end after at most `count` characters, no character follows
pub too_short : (t : List ℕ) (start end count at passed : ℕ) (x : List ℕ) → Many t is_char start at x → length x ≡ passed → passed ≤ count → end ≤ at
    → (o : ℕ) → IsAfterChars t start end count o → ⊥
too_short t start end count at passed x m l w e o b =
    let k = ends_later t start at o x b.characters m b.run (omega (arith, l, w, b.many)) in omega (arith, k, e, b.before)

-- a run has at least as many bytes as characters
run_bytes : {t : List ℕ} {p : ℕ → Bool} {i j : ℕ} {x : List ℕ} → Many t p i j x → i + length x ≤ j
run_bytes done = omega arith
run_bytes {t} {i = i} (step {y = y} (one a) c) =
    let l = next_later t i in let r = run_bytes c in omega (arith, l, r)

-- a run of n bytes has at most n characters
pub too_few_bytes : (t : List ℕ) (start end count : ℕ) → end - start ≤ count → (o : ℕ) → IsAfterChars t start end count o → ⊥
too_few_bytes t start end count h o b = let r = run_bytes b.run in omega (arith, r, h, b.many, b.before)

pub after_all : (t : List ℕ) (start end count at passed : ℕ) (x : List ℕ) → Many t is_char start at x → length x ≡ passed → count ≡ passed → at < end
    → Sole (IsAfterChars t start end count) at
after_all t start end count at passed x m l w e = record {
  holds = record { characters = x; run = m; many = l ∙ sym w; before = e };
  only = λ o b.
      let h = ends_later t start at o x b.characters m b.run (omega (arith, l, w, b.many)) in
      let k = ends_later t start o at b.characters x b.run m (omega (arith, l, w, b.many)) in
      omega (arith, h, k);
}

-- the line of an index
in_line : {src : Table} {max k o : ℕ} → BeyondLimit src max k o → (l : Line) (start : ℕ) → slice_get src.lines k ≡ Some l → Marks src.text l.start start
    → IsAfterChars src.text start l.end max o
in_line {src} {max} {k} {o} (beyond {l = n} {start = s} e m b) l start f q =
    let same : n ≡ l = same_Some _ _ (sym e ∙ f) in
    let m' : Marks src.text l.start s = subst (λ (v : Line). Marks src.text v.start s) same m in
    let b' : IsAfterChars src.text s l.end max o = subst (λ (v : Line). IsAfterChars src.text s v.end max o) same b in
    subst (λ v. IsAfterChars src.text v l.end max o) (marks_unique src.text l.start s start m' q) b'

pub line_answers : (src : Table) (max k : ℕ) (l : Line) (start : ℕ) (answer : Option ℕ) → slice_get src.lines k ≡ Some l → Marks src.text l.start start
    → IsTheOne (IsAfterChars src.text start l.end max) answer → IsTheOne (BeyondLimit src max k) answer
line_answers src max k l start None e m a = λ o b. a o (in_line b l start e m)
line_answers src max k l start (Some o) e m a = record { holds = beyond e m a.holds; only = λ p b. a.only p (in_line b l start e m) }

-- a line with at most that number of bytes, counting its break
pub short_line : (src : Table) (max k : ℕ) (l : Line) → slice_get src.lines k ≡ Some l → l.end ≤ l.next → l.next - l.start ≤ max → (o : ℕ) → BeyondLimit src max k o → ⊥
short_line src max k l e w h o (beyond {l = n} {start = s} f m b) =
    let same : n ≡ l = same_Some _ _ (sym f ∙ e) in
    let start = ap (λ (v : Line). v.start) same in
    let end = ap (λ (v : Line). v.end) same in
    let later : n.start ≤ s = chain_forward (one_functional src.text is_mark) m.run in
    too_few_bytes src.text s n.end max (omega (arith, start, end, later, w, h)) o b

pub beyond_within : {src : Table} {max k o : ℕ} → BeyondLimit src max k o → k < length src.lines
beyond_within {src} {max} {k} (beyond {l} e m b) = slice_get_within src.lines k l e
