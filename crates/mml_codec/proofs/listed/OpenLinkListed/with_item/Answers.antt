use Rattle.std.proofs.Common.{append_assoc}
use Rattle.mml_codec.specs.Facts.{open_link_text}
use Rattle.mml_codec.proofs.listed.OpenLinkListed.with_item.Goals as goal

pub returns-clause-text : goal.returns-clause-text
unfolding open_link_text
returns-clause-text c = simp (c.with_text.ensures.text, c.with_kind-line.ensures.text, c.with_text-line-4.ensures.text, c.with_node-line-3.ensures.text, c.with_text-line-3.ensures.text, c.with_node-line-2.ensures.text, c.with_text-line-2.ensures.text, c.with_node-line.ensures.text, c.with_text-line.ensures.text, append_assoc)
