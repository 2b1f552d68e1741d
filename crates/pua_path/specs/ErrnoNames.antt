-- The name of each errno.
use Rattle.std.specs.Prelude.{ℕ, List, codes}
use Rattle.pua_path.specs.declared.errno.Errno.{Errno}
use Rattle.pua_path.specs.declared.errno.Errno.TheVariants.{EPERM, ENOENT, E2BIG, EBADF, EACCES, EAGAIN, EBUSY, EEXIST, ENOTDIR, EISDIR}
use Rattle.pua_path.specs.declared.errno.Errno.TheVariants.{EINVAL, ENOSPC, ELOOP, ENAMETOOLONG, ENOTEMPTY, ENOSYS, ENOTSOCK, EOPNOTSUPP, EADDRINUSE}
use Rattle.pua_path.specs.declared.errno.Errno.TheVariants.{EXDEV}

abbrev pub errno_name : Errno → List ℕ
errno_name EPERM = codes "EPERM"
errno_name ENOENT = codes "ENOENT"
errno_name E2BIG = codes "E2BIG"
errno_name EBADF = codes "EBADF"
errno_name EACCES = codes "EACCES"
errno_name EAGAIN = codes "EAGAIN"
errno_name EBUSY = codes "EBUSY"
errno_name EEXIST = codes "EEXIST"
errno_name ENOTDIR = codes "ENOTDIR"
errno_name EISDIR = codes "EISDIR"
errno_name EINVAL = codes "EINVAL"
errno_name ENOSPC = codes "ENOSPC"
errno_name ELOOP = codes "ELOOP"
errno_name ENAMETOOLONG = codes "ENAMETOOLONG"
errno_name ENOTEMPTY = codes "ENOTEMPTY"
errno_name ENOSYS = codes "ENOSYS"
errno_name ENOTSOCK = codes "ENOTSOCK"
errno_name EOPNOTSUPP = codes "EOPNOTSUPP"
errno_name EADDRINUSE = codes "EADDRINUSE"
errno_name EXDEV = codes "EXDEV"
