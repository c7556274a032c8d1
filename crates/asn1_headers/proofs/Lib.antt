mod HeadersAndContents
mod OpenContents
mod Reading
mod StrictHeaders
mod PartsSwapped
