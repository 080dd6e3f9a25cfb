-- The numbers of errors.
use Rattle.std.specs.Prelude.{ℤ, negsuc}
use Rattle.yf_json_rpc.specs.declared.error_code.ErrorCode.{ErrorCode}
use Rattle.yf_json_rpc.specs.declared.error_code.ErrorCode.TheVariants.{ParseError, InvalidRequest, MethodNotFound, InvalidParams, InternalError, ServerNotInitialized, RequestFailed}

-- `negsuc n` is -(n + 1): the numbers are -32700, -32600, -32601, -32602, -32603, -32002 and -32803
abbrev pub number_of : ErrorCode → ℤ
number_of ParseError = negsuc 32699
number_of InvalidRequest = negsuc 32599
number_of MethodNotFound = negsuc 32600
number_of InvalidParams = negsuc 32601
number_of InternalError = negsuc 32602
number_of ServerNotInitialized = negsuc 32001
number_of RequestFailed = negsuc 32802
