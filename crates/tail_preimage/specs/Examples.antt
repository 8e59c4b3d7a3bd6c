-- Worked examples, done by hand, which the prover computes. A placed configuration is a configuration whose middle
-- begins at a given place. A shape has four numbers, which count the periods of a configuration t in a preimage of t:
-- `back` left periods in its left period, `before` left and `after` right periods in its middle, and `on` right periods
-- in its right period.
use Rattle.std.specs.Prelude.{◌≡◌, [], ◌∷◌, refl, negsuc}
use Rattle.std.specs.declared.cmp.Ordering.TheVariants.{Less, Greater}
use Rattle.tail_config.specs.Tails.{TailConfig}
use Rattle.tail_preimage.specs.Preimages.{PlacedConfig, placed_cells, letters, shape_cmp, stretch}

-- the configuration 0|001|0, whose middle begins at cell -2
abbrev placed : PlacedConfig
placed = record { at = negsuc 1; config = record { left = 0 ∷ []; middle = 0 ∷ 0 ∷ 1 ∷ []; right = 0 ∷ [] } }

-- the cells of the placed configuration from -3 to 1: the 1 is at cell 0
placed_cells-placed : placed_cells placed (negsuc 2) 5 ≡ 0 ∷ 0 ∷ 0 ∷ 1 ∷ 0 ∷ []
placed_cells-placed = refl

-- the letters of the placed configuration: its left period, its middle and its right period
letters-placed : letters placed ≡ 0 ∷ 0 ∷ 0 ∷ 1 ∷ 0 ∷ []
letters-placed = refl

-- the configuration 01|1|100
abbrev mixed : TailConfig
mixed = record { left = 0 ∷ 1 ∷ []; middle = 1 ∷ []; right = 1 ∷ 0 ∷ 0 ∷ [] }

-- two left periods, the middle and one right period of the configuration 01|1|100, as one word
stretch-mixed : stretch mixed 2 1 ≡ 0 ∷ 1 ∷ 0 ∷ 1 ∷ 1 ∷ 1 ∷ 0 ∷ 0 ∷ []
stretch-mixed = refl

-- a shape with one left period in total is less than a shape with two
shape_cmp-spans : shape_cmp (record { before = 0; back = 1; after = 0; on = 3 }) (record { before = 1; back = 1; after = 0; on = 1 }) ≡ Less
shape_cmp-spans = refl

-- if two shapes have equal totals on both sides, the shape with fewer left periods in its middle is less
shape_cmp-middles : shape_cmp (record { before = 1; back = 1; after = 0; on = 1 }) (record { before = 0; back = 2; after = 0; on = 1 }) ≡ Greater
shape_cmp-middles = refl
