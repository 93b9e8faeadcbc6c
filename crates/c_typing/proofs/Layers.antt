-- All equations of the layers.
use Rattle.c_typing.proofs.CalleeLayers.{callee_layers}
use Rattle.c_typing.proofs.ConditionLayers.{condition_layers}
use Rattle.c_typing.proofs.PlaceLayers.{place_layers}
use Rattle.c_typing.proofs.ProgramLayers.{program_layers}
use Rattle.c_typing.proofs.ScopeLayers.{scope_layers}
use Rattle.c_typing.proofs.SiteLayers.{site_layers}

pub ruleset layers = (callee_layers, condition_layers, place_layers, program_layers, scope_layers, site_layers)
