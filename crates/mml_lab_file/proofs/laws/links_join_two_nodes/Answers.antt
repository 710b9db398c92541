use Rattle.mml_lab_file.proofs.{LabFaultLemmas.faultless, LabMeaningLemmas.all_join, LinksFaultLemmas.none_means}
use Rattle.mml_lab_file.proofs.laws.links_join_two_nodes.Goals as goal

pub returns : goal.returns
returns c = record {
  nodes = λ raw none. (all_join raw (faultless raw none)).nodes;
  different = λ raw none. (all_join raw (faultless raw none)).different;
  once = λ raw i j link again none less first second joined. (none_means raw.links).0 (faultless raw none).once j
      (record { earlier = i; before = less; link = link; again = again; first = first; second = second; joins = joined });
}
