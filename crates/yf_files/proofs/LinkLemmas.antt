-- Links and folders in memory are made with their content.
use Rattle.std.proofs.Common.{◌≡◌, ◌≢◌, ◌∙◌, ℕ, Option, Some, None, refl, sym, ap, arith}
use Rattle.std.specs.Prelude.{option_map}
use Rattle.yf_files.specs.Calls.{FileMade, WriteChanges}
use Rattle.yf_files.specs.Links.{NodeMade}
use Rattle.yf_files.specs.Memory.{ContentAdded, InodeMade, IsWell, MomentPasses, node_of, state_of}
use Rattle.yf_files.specs.Tree.{Name, Node}
use Rattle.yf_files.specs.declared.logs.Logs.{Logs}
use Rattle.yf_files.proofs.LogLemmas.{node_given}
use Rattle.yf_files.proofs.MemoryLemmas.{entry_used, given, made, well_makes, well_passes}

-- An inode gets a name and then its content.
module _ (old mid one new : Logs) (n : Name) (node : Node) (well : IsWell old) (p : MomentPasses old mid) (m : InodeMade mid one n) (c : ContentAdded one new one.made node) where
  well_one : IsWell one
  well_one = well_makes mid one n (well_passes old mid well p) m

  held_now : node_of new.contents.items one.made ≡ node
  held_now = ap (node_of new.contents.items) (sym c.inode_is) ∙ ap (λ l. node_of l c.content.inode) c.contents ∙ node_given one c.content ∙ c.has

  pub node_made : NodeMade (state_of old) (state_of new) n node
  node_made = record {
    was = ap (option_map (state_of old).node) first.was;
    is = ap (option_map (state_of new).node) (second.entry n ∙ first.is) ∙ ap Some held_now;
    others = λ q other. ap (option_map (state_of new).node) (second.entry q ∙ first.entry q other) ∙ each q ((state_of old).entry q) refl;
  }
    where
      first : FileMade (state_of old) (state_of one) n
      first = made old mid one n well p m

      second : WriteChanges (state_of one) (state_of new)
      second = given one new one.made node well_one c refl

      apart : (q : Name) (i : ℕ) → (state_of old).entry q ≡ Some i → i ≢ one.made
      apart q i is same = let used = entry_used old q i well is in omega (arith, used, same, m.made, p.next)

      each : (q : Name) (o : Option ℕ) → (state_of old).entry q ≡ o → option_map (state_of new).node o ≡ option_map (state_of old).node o
      each q None is = refl
      each q (Some i) is = ap Some (second.node i (apart q i is) ∙ first.node i (apart q i is))
