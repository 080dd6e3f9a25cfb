use Rattle.std.proofs.Common.{◌≤◌, ◌<◌, ◌∙◌, List, ℕ, ap, get_or, length, rules, subst, sym}
use Rattle.std.proofs.lemmas.List.{length-map}
use Rattle.std.specs.Prelude.{map}
use Rattle.yf_command_line.specs.declared.command.Input.TheVariants.{File}
use Rattle.yf_program.specs.Answer.{ScopedRewrite, host_in}
use Rattle.yf_host.specs.Rewriting.{claim_of}
use Rattle.yf_program.specs.Answer.DoesEach.{one_done}
use Rattle.yf_host.specs.World.{world_in}
use Rattle.yf_program.proofs.AnswerLemmas.{all_done, named_before, named_by_name, next_done, next_file}
use Rattle.yf_program.proofs.rewrites.rewrite_each.Goals as goal

pub loop-name-init : goal.loop-name-init
loop-name-init g c = record {
  done = one_done {input = File c.args.files.now.first}
      (named_by_name (host_in g.I.Inputs.claim g.S.FileSystem.tells g.S.FileSystem.state g.S.Links.leads c.args.sources.now) c.args.scope.now c.args.explain (claim_of c.args.new_text.now) c.rewrite_named-greatest.result _ _ c.as_str-first.result.now c.args.files.now.first c.as_str-first.ensures c.rewrite_named-greatest.ensures.does);
  same = c.rewrite_named-greatest.ensures.inputs;
}

pub loop-name-preserved : goal.loop-name-preserved
loop-name-preserved g c =
    let all : List (List ℕ) = c.args.files.now.rest.items in
    let inside : c.loop-name.name-index < length c.args.files.now.rest.items = search rules in
    let name_is = c.name-item.is ∙ ap (λ (names : List (List ℕ)). get_or names c.loop-name.name-index c.name-item.result) c.as_slice-name-items.ensures.value in
    record {
      done = next_done c.args.scope.now.stdin_name (ScopedRewrite (host_in g.I.Inputs.claim g.S.FileSystem.tells g.S.FileSystem.state g.S.Links.leads c.args.sources.now) c.args.scope.now c.args.explain (claim_of c.args.new_text.now)) _ (world_in g.I.Inputs.opened c.loop-name.sources c.loop-name.streams) _
          (File c.args.files.now.first) (File c.name-item.result) (map (λ (name : List ℕ). File name) all) c.loop-name.name-index (File c.name-item.result) c.loop-name.greatest c.rewrite_named-status.result c.max-greatest.result
          (subst (λ n. c.loop-name.name-index < n) (sym (length-map all (λ (name : List ℕ). File name))) inside)
          (next_file all c.loop-name.name-index c.name-item.result c.name-item.result name_is)
          c.max-greatest.ensures c.loop-name.invariant.done
          (named_by_name (host_in g.I.Inputs.claim g.S.FileSystem.tells g.S.FileSystem.state g.S.Links.leads c.args.sources.now) c.args.scope.now c.args.explain (claim_of c.args.new_text.now) c.rewrite_named-status.result _ _ c.as_str.result.now c.name-item.result c.as_str.ensures
          (named_before g.I.Inputs.claim g.S.FileSystem.tells g.S.FileSystem.state g.S.Links.leads c.loop-name.sources c.args.sources.now c.loop-name.invariant.same
          c.args.scope.now c.args.explain (claim_of c.args.new_text.now) c.as_str.result.now c.rewrite_named-status.result _ _ c.rewrite_named-status.ensures.does));
      same = c.rewrite_named-status.ensures.inputs ∙ c.loop-name.invariant.same;
    }

pub returns : goal.returns
returns g c =
    let past : length c.args.files.now.rest.items ≤ c.loop-name.name-index = search rules in
    all_done c.args.scope.now.stdin_name (ScopedRewrite (host_in g.I.Inputs.claim g.S.FileSystem.tells g.S.FileSystem.state g.S.Links.leads c.args.sources.now) c.args.scope.now c.args.explain (claim_of c.args.new_text.now)) _ _ (File c.args.files.now.first) (map (λ (name : List ℕ). File name) c.args.files.now.rest.items) c.loop-name.name-index c.loop-name.greatest
    (subst (λ n. n ≤ c.loop-name.name-index) (sym (length-map c.args.files.now.rest.items (λ (name : List ℕ). File name))) past) c.loop-name.invariant.done
