-- Lemmas on the parts of the recursive reader.
use Rattle.std.proofs.Common.{◌≡◌, ℕ, ℤ, ◌<◌, ◌≤◌, Bool, true, false, List, [], ◌++◌, refl, sym, ap, subst, ⊎_elim, arith, append-nil}
use Rattle.std.proofs.lemmas.Bool.{cases_lt}
use Rattle.yf_chars.specs.declared.context.Ctx.{Ctx}
use Rattle.yf_chars.specs.Class.{is_white}
use Rattle.yf_chars.specs.Chain.{Many}
use Rattle.yf_chars.proofs.TextLemmas.{within_from_code}
use Rattle.yf_lines.specs.Basic.{by_whites}
use Rattle.yf_comments.specs.Comment.{CommentValue}
use Rattle.yf_comments.specs.Comments.{Separate}
use Rattle.yf_grammar.specs.Productions.Grammar.{Production, MaySeparate, MaySeparateInLine, ValueSeparate, Derives}
use Rattle.yf_grammar.specs.Productions.Grammar as Grammar
use Rattle.yf_grammar.specs.Productions.Meaning.{Meaning, ◌⊕◌, meaning_after, collection}
use Rattle.yf_grammar.specs.FlowReader.Parser.{ParsedNode, Gap, PairKey, only}
use Rattle.yf_grammar.specs.FlowReader.Parser as Parser
use Rattle.yf_grammar.proofs.Ends.Forward.{whites_forward}
use Rattle.yf_grammar.proofs.FlowReader.OneLine.{AllOnLine}

-- a derived part, with equal numbers and meanings
pub moved : {t : List ℕ} {h g i j k : ℕ} {p : Production} {x y : Meaning} → h ≡ g → j ≡ k → x ≡ y → Derives t h p i j x → Derives t g p i k y
moved {t} {h} {g} {i} {j} {k} {p} {x} {y} e f s d =
    let a : Derives t g p i j x = subst (λ w. Derives t w p i j x) e d in
    let b : Derives t g p i k x = subst (λ w. Derives t g p i w x) f a in
    subst (λ w. Derives t g p i k w) s b

-- the reader's separation is one of the grammar's
pub gap_separate : {t : List ℕ} {n : ℤ} {c : Ctx} {i j : ℕ} {cs : List CommentValue} → Gap t n c i j cs → MaySeparate t n c i j cs
gap_separate (Parser.longest_gap s) = Grammar.separated s.derived
gap_separate (Parser.no_gap s) = Grammar.unseparated

pub value_separate : {t : List ℕ} {n : ℤ} {c : Ctx} {i j : ℕ} {cs : List CommentValue} (json : Bool) → Separate t n c i j cs → ValueSeparate json t n c i j cs
value_separate true s = Grammar.separated s
value_separate false s = s

pub whites_in_line : {t : List ℕ} {i j : ℕ} {x : List ℕ} → Many t is_white i j x → MaySeparateInLine t i j
whites_in_line {t} {i} {j} m =
    let f = whites_forward m in
    ⊎_elim (λ (l : i < j). Grammar.separated_in_line (by_whites m l))
    (λ (l : j ≤ i). let same : i ≡ j = omega arith in subst (λ k. MaySeparateInLine t i k) same Grammar.unseparated_in_line)
    (cases_lt i j)

-- the key of a single pair is on one line, and the text goes on after it
pub key_on_line : {t : List ℕ} {c : Ctx} {i k : ℕ} {f : ParsedNode} → PairKey t c i f k → AllOnLine t i k
key_on_line {t} {k = k} p = let e = p.colon.colon in record { line = p.line; goes_on = within_from_code t k (omega arith) }

-- meanings that differ only in their ends
pub record Same (x y : Meaning) : Type 0 where
  pub events : x.events ≡ y.events
  pub comments : x.comments ≡ y.comments
  pub escapes : x.escapes ≡ y.escapes

pub same_refl : (x : Meaning) → Same x x
same_refl x = record { events = refl; comments = refl; escapes = refl }

pub same_after : {x y : Meaning} (z : Meaning) → Same x y → Same (z ⊕ x) (z ⊕ y)
unfolding ◌⊕◌
same_after z s = record {
  events = ap (λ w. z.events ++ w) s.events;
  comments = ap (λ w. z.comments ++ w) s.comments;
  escapes = ap (λ w. z.escapes ++ w) s.escapes;
}

pub same_before_nothing : (x : Meaning) (i : ℕ) → Same x (x ⊕ only [] i)
unfolding ◌⊕◌ only
same_before_nothing x i = record {
  events = sym (append-nil x.events);
  comments = sym (append-nil x.comments);
  escapes = sym (append-nil x.escapes);
}

-- a collection has an end of its own
pub same_collection : {x y : Meaning} (sequence : Bool) (i j : ℕ) (cs : List CommentValue) → Same x y
    → collection sequence true i j (meaning_after cs x) ≡ collection sequence true i j (meaning_after cs y)
unfolding collection meaning_after
same_collection sequence i j cs s = rw (s.events, s.comments, s.escapes) refl

pub empty_collection : (sequence : Bool) (i j k : ℕ) (cs : List CommentValue)
    → collection sequence true i j (record { events = []; comments = cs; escapes = []; finish = k }) ≡ collection sequence true i j (meaning_after cs (only [] k))
unfolding collection meaning_after only
empty_collection sequence i j k cs = rw (append-nil cs) refl

pub after_nothing : (x : Meaning) → meaning_after [] x ≡ x
unfolding meaning_after
after_nothing x = refl
