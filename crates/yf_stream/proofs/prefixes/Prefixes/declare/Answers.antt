use Rattle.std.proofs.Common.{not, is_some, map, sym, ap, ◌∙◌, subst, arith, Some, None}
use Rattle.std.proofs.lemmas.List.{length-map}
use Rattle.std.proofs.lemmas.Map.Text.{btree_map_updates_str}
use Rattle.yf_props.specs.Handles.{declaration, is_declared}
use Rattle.yf_stream.specs.FewHandles.{FewOf}
use Rattle.yf_stream.specs.TagPass.{SameDeclarations}
use Rattle.yf_stream.proofs.TagPass.DeclaredLemmas.{counted_less, counted_more, declares_by_order, few_declared, few_kept, few_more, few_same, found_again, is_declared_by_order, newly_declared, not_declared, same_itself, taken_out, with_old}
use Rattle.yf_stream.proofs.prefixes.Prefixes.declare.Goals as goal

pub returns-then-contains_key-clause-fresh : goal.returns-then-contains_key-clause-fresh
returns-then-contains_key-clause-fresh c =
    let h = c.args.handle.now in
    sym (ap not (ap (λ z. is_declared z h) (sym c.self.view_is) ∙ is_declared_by_order c.self.inside.all.entries h ∙ sym c.contains_key.ensures ∙ c.if-contains_key.true))

pub returns-then-contains_key-clause-declared : goal.returns-then-contains_key-clause-declared
returns-then-contains_key-clause-declared c =
    let h = c.args.handle.now in
    let now = c.args.self.now in
    let found = ap (λ z. is_declared z h) (sym c.self.view_is) ∙ is_declared_by_order c.self.inside.all.entries h ∙ sym c.contains_key.ensures ∙ c.if-contains_key.true in
    subst (λ z. SameDeclarations now z) (sym (with_old now h c.args.prefix.now found)) (same_itself now)

pub returns-then-len-gt-FEW-clause-fresh : goal.returns-then-len-gt-FEW-clause-fresh
returns-then-len-gt-FEW-clause-fresh c =
    let h = c.args.handle.now in
    sym (ap not (ap (λ z. is_declared z h) (sym c.self.view_is) ∙ is_declared_by_order c.self.inside.all.entries h ∙ sym c.contains_key.ensures ∙ c.if-contains_key.false))

pub returns-then-len-gt-FEW-clause-declared : goal.returns-then-len-gt-FEW-clause-declared
returns-then-len-gt-FEW-clause-declared c =
    let h = c.args.handle in
    let es = c.self.inside.all.entries in
    let none = not_declared (map declaration es) h.now (is_declared_by_order es h.now ∙ sym c.contains_key.ensures ∙ c.if-contains_key.false) in
    newly_declared c.self.view_is (declares_by_order es c.insert.new.self.entries h c.args.prefix (btree_map_updates_str h.now c.self.inside.all c.insert.new.self (Some c.args.prefix) c.in-Ok.ensures.updates)) none

pub invariant_of-self-then-len-gt-FEW : goal.invariant_of-self-then-len-gt-FEW
invariant_of-self-then-len-gt-FEW c =
    let h = c.args.handle in
    let es = c.self.inside.all.entries in
    let more = c.insert.new.self.entries in
    few_kept c.self.invariant (declares_by_order es more h c.args.prefix (btree_map_updates_str h.now c.self.inside.all c.insert.new.self (Some c.args.prefix) c.in-Ok.ensures.updates))
    (omega (arith, length-map more declaration, c.len.ensures.len, c.if-len-gt-FEW.true))

pub returns-in-Ok-declare-clause-fresh : goal.returns-in-Ok-declare-clause-fresh
returns-in-Ok-declare-clause-fresh c =
    let h = c.args.handle.now in
    sym (ap not (ap (λ z. is_declared z h) (sym c.self.view_is) ∙ is_declared_by_order c.self.inside.all.entries h ∙ sym c.contains_key.ensures ∙ c.if-contains_key.false))

pub returns-in-Ok-declare-clause-declared : goal.returns-in-Ok-declare-clause-declared
returns-in-Ok-declare-clause-declared c =
    let h = c.args.handle in
    let es = c.self.inside.all.entries in
    let none = not_declared (map declaration es) h.now (is_declared_by_order es h.now ∙ sym c.contains_key.ensures ∙ c.if-contains_key.false) in
    newly_declared c.self.view_is (declares_by_order es c.insert.new.self.entries h c.args.prefix (btree_map_updates_str h.now c.self.inside.all c.insert.new.self (Some c.args.prefix) c.in-Ok.ensures.updates)) none

pub invariant_of-self-in-Ok-declare : goal.invariant_of-self-in-Ok-declare
invariant_of-self-in-Ok-declare c =
    let h = c.args.handle in
    let es = c.self.inside.all.entries in
    let more = c.insert.new.self.entries in
    let few = c.self.inside.few in
    let none = not_declared (map declaration es) h.now (is_declared_by_order es h.now ∙ sym c.contains_key.ensures ∙ c.if-contains_key.false) in
    let declares = declares_by_order es more h c.args.prefix (btree_map_updates_str h.now c.self.inside.all c.insert.new.self (Some c.args.prefix) c.in-Ok.ensures.updates) in
    let count = counted_more es more c.in-Ok.field-0 c.in-Ok.ensures.len (ap is_some c.in-Ok.ensures.old ∙ sym c.contains_key.ensures ∙ c.if-contains_key.false) in
    let new = few_declared few h.now c.args.prefix.now (c.self.invariant.others h.now none) c.in-Ok-declare.ensures.declared in
    subst (λ z. FewOf z (map declaration more)) (sym new) (few_more c.self.invariant declares count none)

pub invariant_of-self-2 : goal.invariant_of-self-2
invariant_of-self-2 c =
    let h = c.args.handle in
    let es = c.self.inside.all.entries in
    let more = c.insert.new.self.entries in
    let less = c.remove.new.self.entries in
    let none = not_declared (map declaration es) h.now (is_declared_by_order es h.now ∙ sym c.contains_key.ensures ∙ c.if-contains_key.false) in
    let put = btree_map_updates_str h.now c.self.inside.all c.insert.new.self (Some c.args.prefix) c.in-Ok.ensures.updates in
    let taken = btree_map_updates_str h.now c.insert.new.self c.remove.new.self None c.remove.ensures.updates in
    let count = counted_less es more less c.in-Ok.field-0 c.remove.result c.in-Ok.ensures.len (ap is_some c.in-Ok.ensures.old ∙ sym c.contains_key.ensures ∙ c.if-contains_key.false)
    c.remove.ensures.len (ap is_some c.remove.ensures.value ∙ found_again es more h c.args.prefix put) in
    subst (λ z. FewOf z (map declaration less)) (sym c.in-Err-declare.ensures.refused.1) (few_same c.self.invariant (taken_out es more less h c.args.prefix none put taken) count)
