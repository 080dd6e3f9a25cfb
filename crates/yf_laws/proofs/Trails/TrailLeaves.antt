-- The comment that the pass finds to trail a leaf is the one that trails it in the layout.
use Rattle.std.proofs.Common.{◌≡◌, ℕ, zero, suc, ◌≤◌, ◌<◌, Bool, true, false, not, ◌&&◌, List, [], ◌∷◌, ◌++◌, length, flat_map, get_or, Option, Some, None, refl, sym, ap, ◌∙◌, arith, append-nil}
use Rattle.std.specs.Prelude.{◌||◌, nat_lt, option_to_list, slice_get, zip, if◌then◌else◌}
use Rattle.yf_comments.specs.Comment.{CommentValue}
use Rattle.yf_events.specs.declared.lists.Lists.{Lists}
use Rattle.yf_print.specs.Passes.Drafts.{trailing_at, trailing_if}
use Rattle.yf_forms.specs.Passes.Searches.{count_to}
use Rattle.yf_laws.specs.Layouts.Layout.{Source, first_comment, is_among, trailing_leaf}
use Rattle.yf_forms.specs.Nodes.Lines.{after_two_spaces}
use Rattle.yf_print.specs.Passes.TrailPass.{is_at, is_at_end}
use Rattle.yf_laws.specs.Layouts.TrailsOf.{at_index}
use Rattle.yf_laws.proofs.Printer.FeedLemmas.{ascend}
use Rattle.yf_laws.proofs.Trails.LeafMarks.{Mark}
use Rattle.yf_laws.proofs.Trails.TrailChoice.{first_counted, none_at, rising}
use Rattle.yf_laws.proofs.Trails.TrailRuns.{end_of, found_of, spans}
use Rattle.yf_laws.proofs.Printer.FedLemmas.{count_within as counted_within}
use Rattle.yf_chars.proofs.Tests.{is_less as less}

-- a comment and its note at an index
record Both (cs : List CommentValue) (bs : List Bool) (n : ℕ) : Type 0 where
  comment : CommentValue
  note : Bool
  both : slice_get (zip cs bs) n ≡ Some (comment, note)
  one : slice_get cs n ≡ Some comment
  other : get_or bs n false ≡ note

both_at : (cs : List CommentValue) (bs : List Bool) (n : ℕ) → length bs ≡ length cs → n < length cs → Both cs bs n
both_at [] bs n e l = absurd (omega (arith, l))
both_at (c ∷ cs) [] n e l = absurd (omega (arith, e))
both_at (c ∷ cs) (b ∷ bs) zero e l = record { comment = c; note = b; both = refl; one = refl; other = refl }
both_at (c ∷ cs) (b ∷ bs) (suc n) e l =
    let rest = both_at cs bs n (omega (arith, e)) (omega (arith, l)) in
    record { comment = rest.comment; note = rest.note; both = rest.both; one = rest.one; other = rest.other }

-- the marks of the pass for comments that trail keys are those of the layout
pub record KeyMarks (c : Source) (cs : List CommentValue) (keys : List Bool) : Type 0 where
  pub marked : (k : ℕ) (d : CommentValue) → slice_get cs k ≡ Some d → get_or keys k false ≡ is_among c.key_comments d

turned : (a b : Bool) → (not a && b) ≡ (b && not a)
turned true true = refl
turned true false = refl
turned false true = refl
turned false false = refl

end_within : (r : Lists) (ls : List Mark) → end_of r ls ≤ length r.comments
end_within r [] = omega arith
end_within r (l ∷ ls) = counted_within l.span.start r.comments

-- the comment that is found for a leaf is the one that the layout has after it
pub chosen_of : (r : Lists) (c : Source) (keys : List Bool) (xs : List Mark) (l : Mark) (ys : List Mark) → c.remarks ≡ zip r.comments r.on_leaf_line
    → length r.on_leaf_line ≡ length r.comments → c.leaves ≡ spans xs ++ (l.span ∷ spans ys) → ascend r.comments ≡ true → rising (spans xs ++ (l.span ∷ spans ys)) ≡ true
    → none_at l.span.start r.comments ≡ true → KeyMarks c r.comments keys
    → trailing_leaf c l.span (first_comment c l.span) ≡ at_index r.comments (found_of r keys l ys)
chosen_of r c keys xs l ys m e lv a u n k =
    ap (trailing_leaf c l.span) (first_counted c r.comments r.on_leaf_line (spans xs) l.span (spans ys) m lv a u n)
    ∙ by (nat_lt n0 u0) refl where
      n0 : ℕ
      n0 = count_to l.span.start r.comments

      u0 : ℕ
      u0 = end_of r ys

      by : (b : Bool) → nat_lt n0 u0 ≡ b
          → trailing_leaf c l.span (if b then slice_get (zip r.comments r.on_leaf_line) n0 else None)
          ≡ at_index r.comments (if b && (not (get_or keys n0 false) && is_at r l.span.end n0) then Some n0 else None)
      by false q = refl
      by true q =
          let low : n0 < u0 = less n0 u0 q in
          let high : u0 ≤ length r.comments = end_within r ys in
          let it = both_at r.comments r.on_leaf_line n0 e (omega (arith, low, high)) in
          let place : Bool = nat_lt it.comment.offset l.span.end || it.note in
          ap (trailing_leaf c l.span) it.both
          ∙ (ap (λ w. if place && not w then it.comment ∷ [] else []) (sym (k.marked n0 it.comment it.one))
          ∙ (ap (λ w. if w then it.comment ∷ [] else []) (sym (turned (get_or keys n0 false) place))
          ∙ (whole (not (get_or keys n0 false) && place) n0 it.comment it.one
          ∙ sym (ap (λ w. at_index r.comments (if not (get_or keys n0 false) && is_at_end l.span.end w (slice_get r.comments n0) then Some n0 else None)) it.other
          ∙ ap (λ w. at_index r.comments (if not (get_or keys n0 false) && is_at_end l.span.end it.note w then Some n0 else None)) it.one)))) where
            whole : (b : Bool) (j : ℕ) (d : CommentValue) → slice_get r.comments j ≡ Some d → (if b then d ∷ [] else []) ≡ at_index r.comments (if b then Some j else None)
            whole true j d h = sym (ap option_to_list h)
            whole false j d h = refl

-- its printed text
pub text_of : (cs : List CommentValue) (o : Option ℕ) → trailing_if cs o ≡ flat_map after_two_spaces (at_index cs o)
text_of cs None = refl
text_of cs (Some n) = by (slice_get cs n) where
  by : (o : Option CommentValue) → trailing_at o ≡ flat_map after_two_spaces (option_to_list o)
  by None = refl
  by (Some d) = sym (append-nil (after_two_spaces d))
