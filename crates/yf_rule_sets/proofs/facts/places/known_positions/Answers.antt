use Rattle.std.proofs.Common.{◌<◌, subst, sym, ap, ◌∙◌, length, get_or, take, arith, ◌+◌, refl, true≢false}
use Rattle.std.specs.Str.{IsCharBoundary}
use Rattle.yf_rule_sets.specs.RuleSets.Places.{IsCursor, PlacesOf}
use Rattle.yf_rule_sets.proofs.Findings.PlacesLemmas.{no_places, places_more, places_passed}
use Rattle.yf_rule_sets.proofs.facts.places.known_positions.Goals as goal
use Rattle.yf_rule_sets.proofs.facts.places.known_positions.Goals.{then-is_char_boundary+in_ok-push, else-is_char_boundary}

pub loop-offset-init : goal.loop-offset-init
loop-offset-init c = record {
  places = no_places c.args.src.now.text c.new-places.result.items c.new-places.ensures.items;
  cursor = c.line_cursor-cursor.ensures;
  back = c.line_cursor-cursor.ensures;
}

pub loop-offset-preserved : goal.loop-offset-preserved
loop-offset-preserved c =
    let t = c.args.src.now.text in
    let os = c.args.offsets.now in
    let i = c.loop-offset.offset-index in
    let lt : i < length os = omega arith in
    let before : PlacesOf t (take i os) c.loop-offset.places.items = c.loop-offset.invariant.places in
    elim c.if-is_char_boundary.branch [
      | then-is_char_boundary+in_ok-push w ↦
          let b : IsCharBoundary t (get_or os i 0) = subst (λ x. IsCharBoundary x (get_or os i 0)) c.text.ensures (w.if-is_char_boundary.ensures.test.0 refl) in
          let e = ap (λ v. v.items) w.places-is ∙ w.in_ok-push.ensures.items in
          record {
            places = places_more t os i c.loop-offset.places.items c.if-is_char_boundary.places.items w.place_from-located.result.place lt before b w.place_from-located.ensures.place e;
            cursor = subst (λ s. IsCursor t c.args.src.now.lines s) (sym w.cursor-is) w.place_from-located.ensures.cursor;
            back = subst (λ s. IsCursor t c.args.src.now.lines s) (sym w.back-is) w.place_from-located.ensures.back;
          }
      | else-is_char_boundary w ↦
          let n : IsCharBoundary t (get_or os i 0) → ⊥ = λ b. true≢false (sym (w.if-is_char_boundary.ensures.test.1 (subst (λ x. IsCharBoundary x (get_or os i 0)) (sym c.text.ensures) b))) in
          let e = ap (λ v. v.items) w.places-is in
          record {
            places = subst (λ ps. PlacesOf t (take (i + 1) os) ps) (sym e) (places_passed t os i c.loop-offset.places.items lt before n);
            cursor = subst (λ s. IsCursor t c.args.src.now.lines s) (sym w.cursor-is) c.loop-offset.invariant.cursor;
            back = subst (λ s. IsCursor t c.args.src.now.lines s) (sym w.back-is) c.loop-offset.invariant.back;
          }
    ]
