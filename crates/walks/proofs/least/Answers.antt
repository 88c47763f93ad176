-- `least` is the definition: the walk through the layers that were made. Assumes nothing.
use mathlib.Core.Path.{◌∙◌, ap}
use Rattle.links.specs.Links.{word_edge}
use Rattle.walks.specs.Helpers.{in_range}
use Rattle.walks.proofs.Loops.{least_layers, least_walked}
use Rattle.walks.proofs.least.Goals as goal

pub through-requires : goal.through-requires
through-requires c = (c.requires.0, c.layers_about-layers.ensures.0, ap in_range (least_layers (word_edge c.args.words.now) c.args.x c.args.z _ c.layers_about-layers.ensures.1) ∙ c.requires.1)

pub returns : goal.returns
returns c = least_walked (word_edge c.args.words.now) c.args.x c.args.z _ _ c.layers_about-layers.ensures.1 c.through.ensures
