-- What each public call of `image` promises leaves room for one result.
-- Assumes nothing.
use Rattle.arbiter.proofs.Once.{OneResult, once}
use Rattle.layout.proofs.Once.{number_once, shown_once}
use Rattle.image.proofs.flag_at.Reads as flag_at
use Rattle.image.proofs.read_image.Reads as read-image
use Rattle.image.proofs.check_image.Reads as check-image
use Rattle.image.proofs.read_register.Reads as read-register

pub flag_at_once : OneResult flag_at.Post
flag_at_once κ a x y s t p q = once p q

pub read_image_once : OneResult read-image.Post
read_image_once κ a x y s t p q = once p q

pub check_image_once : OneResult check-image.Post
check_image_once κ a x y s t p q = number_once p q

pub read_register_once : OneResult read-register.Post
read_register_once κ a x y s t p q = shown_once p q
