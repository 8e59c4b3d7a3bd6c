-- Compositions of rules, and rules that undo each other, on all configurations.
use Rattle.std.specs.Prelude.{◌≡◌}
use Rattle.word_image.specs.LocalRules.{LocalRule}
use Rattle.tail_config.specs.Configs.{Config, IsConfig, image_of}

-- t is the composition of r and then s: the image of each configuration under t is the image under s of its image under r
pub record IsOneAfter (r s t : LocalRule) : Type 0 where
  pub states : t.states ≡ r.states
  pub second : s.states ≡ r.states
  pub image : (x : Config) → IsConfig r.states x → image_of t x ≡ image_of s (image_of r x)

-- s undoes r: it maps the image of each configuration under r back to the configuration
pub record IsUndoneBy (r s : LocalRule) : Type 0 where
  pub states : s.states ≡ r.states
  pub back : (x : Config) → IsConfig r.states x → image_of s (image_of r x) ≡ x
