use Rattle.std.proofs.Common.{rules}
use Rattle.yf_discovery.specs.declared.nearest.Discovery.TheVariants as discovery
use Rattle.yf_discovery.specs.Nearest.IsNearestTo.{no_folder, ends_in, goes_up}
use Rattle.yf_discovery.proofs.nearest.nearest_to.Goals as goal

pub returns-in-None : goal.returns-in-None
returns-in-None g c = c.folders.invariant.leads discovery.Nothing (no_folder c.in-None.ensures.split)

pub returns-in-Some-2 : goal.returns-in-Some-2
returns-in-Some-2 g c = c.folders.invariant.leads c.in-Some-2.discovery
    (ends_in c.in-Some.front.now c.in-Some.ensures.split (rw c.in-Some-2.is at c.in_ok-discovery-in-Some.ensures))

pub folders-preserved : goal.folders-preserved
folders-preserved g c = record {
  text = search rules;
  leads = λ d near. c.folders.invariant.leads d
      (goes_up c.in-Some.front.now c.in-Some.ensures.split (rw c.in-None-2.is at c.in_ok-discovery-in-Some.ensures) near);
}
