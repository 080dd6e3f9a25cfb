-- Laws of the white space at the ends of lines.
use Rattle.std.proofs.Common.{◌≡◌, ℕ, ◌<◌, ◌≤◌, Bool, true, false, List, [], Option, Some, None, length, get_or, refl, sym, subst, ◌∙◌, ⊎_elim, arith, true≢false}
use Rattle.std.specs.Prelude.{slice_get}
use Rattle.std.proofs.lemmas.Bool.{cases_Bool}
use Rattle.std.proofs.lemmas.List.{length-map}
use Rattle.std.proofs.lemmas.Option.{same_Some, slice_get_within}
use Rattle.yf_events.specs.Event.{scalar_node}
use Rattle.yf_events.specs.Reading.{events_of}
use Rattle.yf_events.specs.declared.lists.Lists.{Lists}
use Rattle.yf_lines.specs.declared.line.Line.{Line}
use Rattle.yf_lines.specs.Lines.{Table}
use Rattle.yf_rule_sets.specs.RuleSets.ByLine.{BlankEnd, TrailingBlank}
use Rattle.yf_rule_sets.specs.RuleSets.ByLine.BlankEnd.{at_line_end}
use Rattle.yf_rule_sets.specs.RuleSets.ByLine.TrailingBlank.{trailing}
use Rattle.yf_rule_sets.specs.RuleSets.Exact.{IsTheOne, Exactly, Sole}
use Rattle.yf_rule_sets.specs.Passes.LineFlags.{FlagsOf}
use Rattle.yf_rule_sets.specs.RuleSets.Scalars.{ContentLine}
use Rattle.yf_rule_sets.specs.RuleSets.Scalars.ContentLine.{of_block}
use Rattle.yf_rule_sets.specs.RuleSets.Whites.{WhitesEnd}
use Rattle.yf_rule_sets.proofs.Texts.ExactLemmas.{none_yet}
use Rattle.yf_rule_sets.proofs.Texts.WhitesLemmas.{whites_unique}

not_of_content : {src : Table} {k o : ℕ} {b : Bool} → BlankEnd src k b o → b ≡ false
not_of_content (at_line_end e w l) = refl

pub content_has_none : (src : Table) (k : ℕ) (b : Bool) → b ≡ true → (o : ℕ) → BlankEnd src k b o → ⊥
content_has_none src k b e o h = true≢false (sym e ∙ not_of_content h)

ends_there : {src : Table} {k o : ℕ} {b : Bool} (l : Line) (at : ℕ) → slice_get src.lines k ≡ Some l → WhitesEnd src.text l.start l.end at → BlankEnd src k b o → (o ≡ at) × (o < l.end)
ends_there {src} {k} {o} l at e w (at_line_end {l = m} f v h) =
    let same : m ≡ l = same_Some _ _ (sym f ∙ e) in
    let v' : WhitesEnd src.text l.start l.end o = subst (λ (x : Line). WhitesEnd src.text x.start x.end o) same v in
    (whites_unique src.text l.start l.end o at v' w, subst (λ (x : Line). o < x.end) same h)

pub blank_found : (src : Table) (k at : ℕ) (b : Bool) (l : Line) → b ≡ false → slice_get src.lines k ≡ Some l → WhitesEnd src.text l.start l.end at → at < l.end
    → Sole (BlankEnd src k b) at
blank_found src k at b l q e w h = record { holds = subst (λ c. BlankEnd src k c at) (sym q) (at_line_end e w h); only = λ o x. (ends_there l at e w x).0 }

pub blank_none : (src : Table) (k at : ℕ) (b : Bool) (l : Line) → slice_get src.lines k ≡ Some l → WhitesEnd src.text l.start l.end at → l.end ≤ at
    → (o : ℕ) → BlankEnd src k b o → ⊥
blank_none src k at b l e w h o x = let y = ends_there l at e w x in omega (arith, y.0, y.1, h)

event_of_content : {src : Table} {r : Lists} {k i : ℕ} → ContentLine src r k i → i < length r.events
event_of_content {r = r} {i = i} (of_block {props} {style} {text} b f n h y g c l) =
    let m = slice_get_within (events_of r) i (scalar_node props style text) h.event in omega (arith, m, length-map r.events (λ e. e.event))

module _ (src : Table) (r : Lists) (list : List Bool) (k : ℕ) (b : Bool) (inside : k < length list) (flag : b ≡ get_or list k false)
    (notes : FlagsOf list (length r.events) (λ i j. ContentLine src r j i)) where
  no_line : b ≡ false → (i : ℕ) → ContentLine src r k i → ⊥
  no_line e i c = true≢false (sym (notes.all i k (event_of_content c) inside c) ∙ sym flag ∙ e)

  blank_of : {o : ℕ} → TrailingBlank src r k o → BlankEnd src k b o
  blank_of {o} (trailing h n) =
      ⊎_elim (λ (e : b ≡ true). absurd (let w = notes.only k (sym flag ∙ e) in n w.0 w.2))
      (λ (e : b ≡ false). subst (λ c. BlankEnd src k c o) (sym e) h) (cases_Bool b)

  trailing_found : (o : ℕ) → Sole (BlankEnd src k b) o → Sole (TrailingBlank src r k) o
  trailing_found o s =
      let e : b ≡ false = not_of_content s.holds in
      record { holds = trailing (subst (λ c. BlankEnd src k c o) e s.holds) (no_line e); only = λ x t. s.only x (blank_of t) }

  trailing_none : ((o : ℕ) → BlankEnd src k b o → ⊥) → (o : ℕ) → TrailingBlank src r k o → ⊥
  trailing_none f o t = f o (blank_of t)

  pub trailing_answered : (answer : Option ℕ) → IsTheOne (BlankEnd src k b) answer → IsTheOne (TrailingBlank src r k) answer
  trailing_answered None f = trailing_none f
  trailing_answered (Some o) s = trailing_found o s

pub trailing_line : {src : Table} {r : Lists} {k o : ℕ} → TrailingBlank src r k o → k < length src.lines
trailing_line {src} {r} {k} (trailing (at_line_end {l} e w h) n) = slice_get_within src.lines k l e

pub blank_line : {src : Table} {k o : ℕ} {b : Bool} → BlankEnd src k b o → k < length src.lines
blank_line {src} {k} (at_line_end {l} e w h) = slice_get_within src.lines k l e

no_end : {src : Table} {r : Lists} {k o : ℕ} → ((j x : ℕ) → BlankEnd src j false x → ⊥) → TrailingBlank src r k o → ⊥
no_end {k = k} {o = o} f (trailing h n) = f k o h

-- if white space ends no line, the rule finds nothing
pub no_trailing : (src : Table) (r : Lists) (xs : List ℕ) → xs ≡ [] → ((k o : ℕ) → BlankEnd src k false o → ⊥) → Exactly (TrailingBlank src r) xs
no_trailing src r xs e f =
    let empty = none_yet (TrailingBlank src r) xs e in
    record {
      only = λ x c. let w = empty.only x c in (w.0, w.2);
      all = λ k x h. absurd (no_end f h);
    }
