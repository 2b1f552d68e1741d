-- What is wrong with an object for a call, and the errno that says so.
use Rattle.std.specs.Prelude.{false, Option, Some, None, if◌then◌else◌}
use Rattle.pua_tree.specs.declared.node.Kind.{Kind}
use Rattle.pua_tree.specs.declared.node.Kind.TheVariants.{Dir, File, Prog, Link, Known}
use Rattle.pua_tree.specs.declared.node.FileType.TheVariants.{Plain, Sock, Fifo, Dev}
use Rattle.pua_path.specs.declared.errno.Errno.{Errno}
use Rattle.pua_path.specs.declared.errno.Errno.TheVariants.{EPERM, ENOENT, EACCES, EBUSY, EEXIST, ENOTDIR, EISDIR, EINVAL, ENOTEMPTY}
use Rattle.pua_path.specs.declared.errno.Errno.TheVariants.{ENOTSOCK, EOPNOTSUPP, EADDRINUSE, EXDEV}
use Rattle.pua_calls.specs.declared.fits.Misfit.{Misfit}
use Rattle.pua_calls.specs.declared.fits.Misfit.TheVariants.{Missing, Exists, IsDirectory, IsNoFile, IsNoDirectory, IsNoLink}
use Rattle.pua_calls.specs.declared.fits.Misfit.TheVariants.{IsNoProgram, IsNotEmpty, ByDot, ByDotDot, ByNothing, IsSocket, IsNoSocket, InUse}
use Rattle.pua_calls.specs.declared.fits.Misfit.TheVariants.{IsMountPoint, IsElsewhere}
use Rattle.pua_calls.specs.declared.fits.Fits.{Fits}

-- of a call on whatever stands; on what is opened, as no socket is (open(2)); on nothing that stands, but for what is said of some of
-- it; and on a name that is free
abbrev pub each_standing : Fits
each_standing = record {
  directory = None;
  by_way = false;
  file = None;
  socket = None;
  no_socket = None;
  program = None;
  link = None;
  missing = Some Missing;
}

abbrev pub each_opened : Fits
each_opened = record each_standing { socket = Some IsSocket }

abbrev pub none_standing : Misfit → Fits
none_standing misfit = record {
  directory = Some misfit;
  by_way = false;
  file = Some misfit;
  socket = Some misfit;
  no_socket = Some misfit;
  program = Some misfit;
  link = Some misfit;
  missing = Some Missing;
}

abbrev pub free_names : Misfit → Fits
free_names misfit = record (none_standing misfit) { missing = None }

-- with a node of a kind, wherever it stands: a directory is removed by the way to it, which a kind doesn't tell
abbrev pub fits_on : Fits → Kind → Option Misfit
fits_on fits Dir = if fits.by_way then Some Exists else fits.directory
fits_on fits File = fits.file
fits_on fits Prog = fits.program
fits_on fits Link = fits.link
fits_on fits (Known Plain) = fits.no_socket
fits_on fits (Known Sock) = fits.socket
fits_on fits (Known Fifo) = fits.no_socket
fits_on fits (Known Dev) = fits.no_socket

-- the errno that says so, which the misfit alone decides
abbrev pub misfit_errno : Misfit → Errno
misfit_errno Missing = ENOENT
misfit_errno Exists = EEXIST
misfit_errno IsDirectory = EISDIR
misfit_errno IsNoFile = EPERM
misfit_errno IsNoDirectory = ENOTDIR
misfit_errno IsNoLink = EINVAL
misfit_errno IsNoProgram = EACCES
misfit_errno IsNotEmpty = ENOTEMPTY
misfit_errno ByDot = EINVAL
misfit_errno ByDotDot = EINVAL
misfit_errno ByNothing = EBUSY
misfit_errno IsSocket = EOPNOTSUPP
misfit_errno IsNoSocket = ENOTSOCK
misfit_errno InUse = EADDRINUSE
misfit_errno IsMountPoint = EBUSY
misfit_errno IsElsewhere = EXDEV
