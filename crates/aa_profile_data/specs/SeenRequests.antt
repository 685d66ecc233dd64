-- Requests of the code as the definitions see them.
use Rattle.aa_profile_data.specs.Request.{Request, ForCapability, ForFile, ForSockets}
use Rattle.aa_profile_data.specs.declared.request.Request.{Request as AskedRequest}
use Rattle.aa_profile_data.specs.declared.request.Request.TheVariants.{Cap, File, Net}

abbrev pub request_of : AskedRequest → Request
request_of (File needs owned path) = ForFile needs.0 owned path.now
request_of (Cap number) = ForCapability number
request_of (Net domain kind) = ForSockets domain kind
