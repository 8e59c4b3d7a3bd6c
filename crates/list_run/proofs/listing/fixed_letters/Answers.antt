use Rattle.std.proofs.Common.{ℕ, refl, arith}
use Rattle.word_image.proofs.Common.{get_or-replicate}
use Rattle.list_run.proofs.listing.fixed_letters.Goals as goal

pub loop-window-init : goal.loop-window-init
loop-window-init c = record { long = refl; given = λ v l. absurd (omega arith); open_ = λ v l m. get_or-replicate {A = ℕ} 256 v 255 0 m }
