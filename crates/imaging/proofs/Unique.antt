-- What each public call of `imaging` promises leaves room for one result, and for one state of the lent buffer.
-- Assumes nothing.
use Rattle.arbiter.proofs.Once.{OneResult, OneLeft, once}
use Rattle.layout.proofs.Once.{number_once}
use Rattle.imaging.proofs.OnImages.{told_once}
use Rattle.imaging.proofs.fresh_image.Reads as fresh-image
use Rattle.imaging.proofs.refused_by.Reads as refused_by
use Rattle.imaging.proofs.step_image.Reads as step-image
use Rattle.imaging.proofs.advancing.advance_image.Reads as advance-image

pub fresh_image_once : OneLeft (λ κ s. s.1.0.now) fresh-image.Post
fresh_image_once κ a x y s t p q = (number_once p.0 q.0, once p.1 q.1)

pub refused_by_once : OneResult refused_by.Post
refused_by_once κ a x y s t p q = once p q

pub step_image_once : OneLeft (λ κ s. s.0.now) step-image.Post
step_image_once κ a x y s t p q = (once p.0 q.0, once p.1 q.1)

pub advance_image_once : OneLeft (λ κ s. s.0.now) advance-image.Post
advance_image_once κ a x y s t p q = (told_once p.0 q.0, once p.1 q.1)
