-- `holding::write_image` and `holding::write_images`: a row counts more than a list below it, and a list more than each of its rows: at
-- most nine are left of it. Assumes nothing.
use Rattle.std.proofs.Common.{◌+◌, ◌*◌}
use Rattle.holding.proofs.+write_image_write_images.Given as goal

abbrev pub decreases-write_image : goal.decreases-write_image
decreases-write_image l = 16 * l.row + 15

abbrev pub decreases-write_images : goal.decreases-write_images
decreases-write_images l = 16 * l.bound + l.left
